-- Replayed calls: one call more, and what they tell.
use Rattle.std.proofs.Common.{◌≡◌, ℕ, ◌+◌, ◌<◌, ◌≤◌, List, [], ◌∷◌, ◌++◌, map, length, get_or, take, set, fold, sym, refl, ap, ◌∙◌, subst, append_assoc, arith}
use Rattle.std.specs.List.{FoldsTo}
use Rattle.std.proofs.lemmas.Fn.{FoldsTo-push}
use Rattle.std.proofs.lemmas.List.{append-nil, length_push, take_all, take_more}
use Rattle.sheet.specs.History.{Answered, answers, noted, Replays}

noted_none : {A : Type 0} (old : List A) → old ≡ noted old []
noted_none old = ap (λ xs. xs ++ old) (sym (take_all (length old) [] (omega arith)))

-- one answer more, where the list reaches as far and where it does not
noted_more : {A : Type 0} (old new : List A) (x : A) → set (noted old new) (length new) x ≡ noted old (new ++ x ∷ [])
noted_more [] [] x = refl
noted_more [] (y ∷ ys) x = refl
noted_more (o ∷ os) [] x = ap (λ xs. x ∷ (xs ++ os)) (sym (take_all (length os) [] (omega arith)))
noted_more (o ∷ os) (y ∷ ys) x = ap (λ xs. y ∷ xs) (noted_more os ys x)

module _ {S C A : Type 0} (R : S → C → S → A → Type 0) (start : S) (cs : List C) (old : List A) where
  pub replays_none : (so_far : Replays R start [] start old old) × (length so_far.given ≡ 0)
  replays_none = (record { given = []; made = refl; written = noted_none old }, refl)

  pub replays_more : (s t t' : S) (i : ℕ) (c : C) (new now' : List A) (a : A)
      → (so_far : Replays R start (take i cs) s old new) × (length so_far.given ≡ i)
      → i < length cs → c ≡ get_or cs i c → R s c t a → t' ≡ t → now' ≡ set new i a
      → (so_far : Replays R start (take (i + 1) cs) t' old now') × (length so_far.given ≡ i + 1)
  replays_more s t t' i c new now' a (ran, reached) within read more left put =
      let given = ran.given ++ a ∷ [] in
      let one_more : take (i + 1) cs ≡ take i cs ++ c ∷ [] = take_more cs i c within ∙ ap (λ x. take i cs ++ x ∷ []) (sym read) in (
        record {
          given = given;
          made = subst (λ ds. FoldsTo (Answered R) (start, []) ds (t', given)) (sym one_more)
              (FoldsTo-push (Answered R) (start, []) (take i cs) (s, ran.given) c (t', given) ran.made (a, subst (λ k. R s c k a) (sym left) more, refl));
          written = put ∙ ap (λ xs. set xs i a) ran.written ∙ ap (λ k. set (noted old ran.given) k a) (sym reached) ∙ noted_more old ran.given a;
        },
        omega (arith, length_push ran.given a),
      )

  pub replays_all : (s : S) (i : ℕ) (new : List A) → (so_far : Replays R start (take i cs) s old new) × (length so_far.given ≡ i) → length cs ≤ i
      → Replays R start cs s old new
  replays_all s i new so_far past = subst (λ ds. Replays R start ds s old new) (take_all i cs past) so_far.0

-- where each call tells its step and its answer
module _ {S B C L A : Type 0} {R : S → B → S → A → Type 0} (told : S → L) (call : B → C) (next : L → C → L) (answer : L → C → A)
    (each : (s : S) (b : B) (t : S) (a : A) → R s b t a → (told t ≡ next (told s) (call b)) × (a ≡ answer (told s) (call b))) where
  told_from : (s t : S) (bs : List B) (xs ys : List A)
      → FoldsTo (Answered R) (s, xs) bs (t, ys)
      → (told t ≡ fold next (told s) (map call bs)) × (ys ≡ xs ++ answers next answer (told s) (map call bs))
  told_from s t [] xs ys e = (ap (λ p. told p.0) (sym e), ap (λ p. p.1) (sym e) ∙ sym (append-nil xs))
  told_from s t (b ∷ bs) xs ys (mid, (a, made, put), rest) =
      let (after, answered) = each s b mid.0 a made in
      let (end, given) = told_from mid.0 t bs mid.1 ys rest in (
        end ∙ ap (λ l. fold next l (map call bs)) after,
        given ∙ ap (λ zs. zs ++ answers next answer (told mid.0) (map call bs)) put ∙ append_assoc xs (a ∷ []) (answers next answer (told mid.0) (map call bs))
            ∙ ap (λ l. xs ++ a ∷ answers next answer l (map call bs)) after ∙ ap (λ x. xs ++ x ∷ answers next answer (next (told s) (call b)) (map call bs)) answered,
      )

  pub replay_tells : {s t : S} {bs : List B} {old new : List A} {start : L} → told s ≡ start → Replays R s bs t old new
      → (told t ≡ fold next start (map call bs)) × (new ≡ noted old (answers next answer start (map call bs)))
  replay_tells {s} {t} {bs} {old} {new} {start} begun ran =
      let (end, given) = told_from s t bs [] ran.given ran.made in (
        end ∙ ap (λ l. fold next l (map call bs)) begun,
        ran.written ∙ ap (noted old) given ∙ ap (λ l. noted old (answers next answer l (map call bs))) begun,
      )

-- where the answers do not depend on the state
pub answers_alone : {S C A : Type 0} (next : S → C → S) (answer : C → A) (s : S) (cs : List C) → answers next (λ _. answer) s cs ≡ map answer cs
answers_alone next answer s [] = refl
answers_alone next answer s (c ∷ cs) = ap (λ xs. answer c ∷ xs) (answers_alone next answer (next s c) cs)

-- what no call changes is as it was
pub same_all : {L C : Type 0} (l : L) (cs : List C) → fold (λ k _. k) l cs ≡ l
same_all l [] = refl
same_all l (c ∷ cs) = same_all l cs
