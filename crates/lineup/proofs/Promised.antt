-- What the questions' answers are where the premises hold.
use Rattle.std.proofs.Common.{◌≡◌, ◌≤◌, ℕ, ◌^◌, Bool, true, false, cond, not, ltb, List, [], ◌∷◌, ◌++◌, length, drop, min, is_some, Some, None, is_ok, Ok, Err, Result, Option, Decides, refl, ap, ◌∙◌, subst, arith}
use Rattle.std.proofs.lemmas.Bool.{both_ways, le-ltb, lt-ltb, lt-leb, ltb-true}
use Rattle.std.proofs.lemmas.Slice.{drop-append-drop}
use Rattle.terms.specs.Groups.{beyond}
use Rattle.terms.specs.Refusals.{row, uppermost, answered, unless}
use Rattle.terms.specs.declared.refusals.Refusal.{Refusal}
use Rattle.terms.specs.declared.refusals.Refusal.TheVariants.{OffSheet, TooWide, Short, NoLineUp}
use Rattle.elimination.specs.Lawful.{Question, spot_count, lawful, some_lawful}
use Rattle.elimination.specs.Links.{link_sets, too_wide, need}
use Rattle.elimination.specs.Codes.{codes}
use Rattle.elimination.specs.Answers.{names_undeclared, cells_needed, first_rows, solve_rows, with_codes, solved_table}
use Rattle.elimination.specs.Accepted.{LeftBySolve}
use Rattle.elimination.specs.Verdicts.{NoneLawful, NoLineUpSays}
use Rattle.elimination.proofs.LineUps.{any_line_up}
use Rattle.elimination.proofs.LinkSets.{length-link_sets}
use Rattle.elimination.proofs.Accepting.{none_fits, length_of_codes, left_long}
use Rattle.elimination.proofs.Verdict.{lawful_below}
use Rattle.solutions.specs.Walks.{instance_of}
use Rattle.solutions.specs.Answers.{instance_answer}
use Rattle.solutions.proofs.Solved.{solved_says}
use Rattle.figures.specs.Operations.{Operations}
use Rattle.rating.specs.Figures.{figures}
use Rattle.rating.specs.Answers.{rate_rows, rated_choices, rated_figures}
use Rattle.rating.proofs.FigureTables.{length_of_figures}
use Rattle.lineup.specs.Promise.{Possible, RefusedSo, NoneExactly, InstanceLawful, GivesItself, after_solve}

-- ---- The rows

-- where none of the first three rows fits, the last one decides
last_row : {X : Type 0} (x : X) (off wide short none : Bool) → off ≡ false → wide ≡ false → short ≡ false
    → answered (uppermost (row off OffSheet ∷ row wide TooWide ∷ row short Short ∷ row none NoLineUp ∷ [])) x ≡ cond none (Err NoLineUp) (Ok x)
last_row x true wide short none o w s = absurd (both_ways true o refl)
last_row x false true short none o w s = absurd (both_ways true w refl)
last_row x false false true none o w s = absurd (both_ways true s refl)
last_row x false false false true o w s = refl
last_row x false false false false o w s = refl

-- where one of the first three fits, it is the answer
first_row : {X : Type 0} (x : X) (off wide short none : Bool) (e : Refusal)
    → uppermost (row off OffSheet ∷ row wide TooWide ∷ row short Short ∷ []) ≡ Some e
    → answered (uppermost (row off OffSheet ∷ row wide TooWide ∷ row short Short ∷ row none NoLineUp ∷ [])) x ≡ Err e
first_row x true wide short none e h = ap (λ r. answered r x) h
first_row x false true short none e h = ap (λ r. answered r x) h
first_row x false false true none e h = ap (λ r. answered r x) h
first_row x false false false none e h = absurd (both_ways false refl (ap is_some h))

-- ---- Whether some line-up is lawful

possible_some : (q : Question) → Possible q → some_lawful q ≡ true
possible_some q (x, law) = (any_line_up (spot_count q.contents) (lawful q)).1 (x, lawful_below q x law, law)

-- ---- An answer to a question, which is the one that the histories tell

module _ {X : Type 0} (value : Question → X) (answer : Result X Refusal) (asked told : Question) (same : asked ≡ told) (n : ℕ)
    (is : answer ≡ answered (uppermost (solve_rows asked n)) (value asked)) where
  told_is : answer ≡ answered (uppermost (solve_rows told n)) (value told)
  told_is = is ∙ ap (λ q. answered (uppermost (solve_rows q n)) (value q)) same

  -- where the premises hold, it accepts just where some line-up is lawful
  pub decided : names_undeclared told ≡ false → too_wide (link_sets told.contents) ≡ false → cells_needed told ≤ n
      → answer ≡ cond (not (some_lawful told)) (Err NoLineUp) (Ok (value told))
  decided declared narrow long =
      told_is ∙ last_row (value told) (names_undeclared told) (too_wide (link_sets told.contents)) (ltb n (cells_needed told)) (not (some_lawful told))
      declared narrow (le-ltb n (cells_needed told) long)

  pub accepts : names_undeclared told ≡ false → too_wide (link_sets told.contents) ≡ false → cells_needed told ≤ n → Possible told
      → answer ≡ Ok (value told)
  accepts declared narrow long possible =
      decided declared narrow long ∙ ap (λ some. cond (not some) (Err NoLineUp) (Ok (value told))) (possible_some told possible)

  pub refuses : (m : ℕ) → n ≡ m → RefusedSo told m answer
  refuses m same_length e fits =
      told_is ∙ first_row (value told) (names_undeclared told) (too_wide (link_sets told.contents)) (ltb n (cells_needed told)) (not (some_lawful told)) e
      (ap (λ k. uppermost (first_rows told k)) same_length ∙ fits)

pub none_exactly : (q : Question) → NoLineUpSays q → (answer : Result (Unit {0}) Refusal) → answer ≡ cond (not (some_lawful q)) (Err NoLineUp) (Ok tt)
    → NoneExactly q answer
none_exactly q says answer is = from (not (some_lawful q)) is says.fits
  where
    from : (none : Bool) → answer ≡ cond none (Err NoLineUp) (Ok tt) → Decides none (NoneLawful q) → NoneExactly q answer
    from true is fits = (λ _. fits.0 refl, λ _. is)
    from false is fits = (λ h. absurd (both_ways (is_ok answer) (ap is_ok h) (ap is_ok is)), λ none. absurd (both_ways false refl (fits.1 none)))

-- ---- The choice table, filled again

codes_again : (q : Question) (table : List ℕ) → with_codes q (with_codes q table) ≡ with_codes q table
codes_again q table =
    ap (λ rest. codes q ++ rest) (drop-append-drop (cells_needed q) table (codes q) (cells_needed q) (omega arith) (length_of_codes q))

-- what is too short stays too short
kept_short : {X : Type 0} (x y : X) (off wide short shorter : Bool) (e : Refusal) → (short ≡ true → shorter ≡ true)
    → uppermost (row off OffSheet ∷ row wide TooWide ∷ row short Short ∷ []) ≡ Some e
    → unless (uppermost (row off OffSheet ∷ row wide TooWide ∷ row shorter Short ∷ [])) x y ≡ x
kept_short x y true wide short shorter e more h = refl
kept_short x y false true short shorter e more h = refl
kept_short x y false false true shorter e more h = ap (λ s. unless (cond s (Some Short) None) x y) (more refl)
kept_short x y false false false shorter e more h = absurd (both_ways false refl (ap is_some h))

either_way : {X : Type 0} (r : Option Refusal) (x y : X) → y ≡ x → unless r x y ≡ x
either_way None x y h = h
either_way (Some e) x y h = refl

-- where the premises hold, solve leaves the codes
pub solved_codes : (q : Question) (table : List ℕ) → names_undeclared q ≡ false → too_wide (link_sets q.contents) ≡ false
    → cells_needed q ≤ length table → solved_table q table ≡ with_codes q table
solved_codes q table declared narrow long =
    ap (λ r. unless r table (with_codes q table)) (none_fits q (length table) declared narrow long)

-- what rate, best and takings leave of a table that solve has filled
filled_again : (q : Question) (n : ℕ) (table : List ℕ) → rated_choices q n (solved_table q table) ≡ solved_table q table
filled_again q n table = from (uppermost (first_rows q (length table))) refl
  where
    from : (r : Option Refusal) → uppermost (first_rows q (length table)) ≡ r
        → unless (uppermost (first_rows q (min (length (unless r table (with_codes q table))) n))) (unless r table (with_codes q table)) (with_codes q (unless r table (with_codes q table)))
        ≡ unless r table (with_codes q table)
    from (Some e) is =
        kept_short table (with_codes q table) (names_undeclared q) (too_wide (link_sets q.contents)) (ltb (length table) (cells_needed q))
        (ltb (min (length table) n) (cells_needed q)) e (λ short. lt-ltb (min (length table) n) (cells_needed q)
        (let l = ltb-true (length table) (cells_needed q) short in omega arith)) is
    from None is =
        either_way (uppermost (first_rows q (min (length (with_codes q table)) n))) (with_codes q table) (with_codes q (with_codes q table))
        (codes_again q table)

-- and so do three such calls, one after the other
pub thrice_filled : (q : Question) (n m k : ℕ) (table solved once twice thrice : List ℕ) → solved ≡ solved_table q table → once ≡ rated_choices q n solved
    → twice ≡ rated_choices q m once → thrice ≡ rated_choices q k twice → thrice ≡ solved_table q table
thrice_filled q n m k table solved once twice thrice s a b c =
    let first = a ∙ ap (rated_choices q n) s ∙ filled_again q n table in
    let second = b ∙ ap (rated_choices q m) first ∙ filled_again q m table in
    c ∙ ap (rated_choices q k) second ∙ filled_again q k table

-- ---- The figure table, filled again

-- the same call leaves the figure table as it is
pub figures_again : {F : Type 0} (o : Operations F) (q : Question) (n : ℕ) (table : List F)
    → rated_figures o q n (rated_figures o q n table) ≡ rated_figures o q n table
figures_again {F} o q n table = from (uppermost (rate_rows q n (length table))) refl
  where
    from : (r : Option Refusal) → uppermost (rate_rows q n (length table)) ≡ r
        → rated_figures o q n (unless r table (figures o q ++ drop (cells_needed q) table)) ≡ unless r table (figures o q ++ drop (cells_needed q) table)
    from (Some e) is = ap (λ r. unless r table (figures o q ++ drop (cells_needed q) table)) is
    from None is =
        let once = figures o q ++ drop (cells_needed q) table in
        either_way (uppermost (rate_rows q n (length once))) once (figures o q ++ drop (cells_needed q) once)
        (ap (λ rest. figures o q ++ rest) (drop-append-drop (cells_needed q) table (figures o q) (cells_needed q) (omega arith) (length_of_figures o q)))

-- ---- Instances

instance_is : (q : Question) (ms table : List ℕ) (switches : ℕ) → LeftBySolve q ms table → beyond (spot_count q.contents) switches ≡ false
    → instance_answer ms table switches ≡ Ok (instance_of ms table switches)
instance_is q ms table switches left declared =
    let count = ap length left.links ∙ length-link_sets q.contents in
    two_rows (beyond (length ms) switches) (ltb (length table) (need ms)) (ap (λ n. beyond n switches) count ∙ declared)
    (le-ltb (length table) (need ms) (left_long q ms table left))
  where
    two_rows : {X : Type 0} {x : X} (off short : Bool) → off ≡ false → short ≡ false
        → answered (uppermost (row off OffSheet ∷ row short Short ∷ [])) x ≡ Ok x
    two_rows true short o s = absurd (both_ways true o refl)
    two_rows false true o s = absurd (both_ways true s refl)
    two_rows false false o s = refl

-- what the answers to solve and instance are, where solve accepts wherever some line-up is lawful
module _ (q : Question) (ms table : List ℕ) (switches : ℕ) (solved : Result (Unit {0}) Refusal) (instance : Result ℕ Refusal)
    (accepts : Possible q → solved ≡ Ok tt) (left : solved ≡ Ok tt → LeftBySolve q ms table)
    (is : instance ≡ after_solve solved (instance_answer ms table switches)) where
  given : (accepted : solved ≡ Ok tt) → beyond (spot_count q.contents) switches ≡ false → instance ≡ Ok (instance_of ms table switches)
  given accepted declared =
      is ∙ ap (λ r. after_solve r (instance_answer ms table switches)) accepted ∙ instance_is q ms table switches (left accepted) declared

  pub every_instance : InstanceLawful q table switches instance
  every_instance possible declared =
      let accepted = accepts possible in
      let links = (left accepted).links in (
        given accepted declared ∙ ap (λ ns. Ok (instance_of ns table switches)) links,
        subst (λ ns. lawful q (instance_of ns table switches) ≡ true) links (solved_says ms table switches q (left accepted)).0,
      )

  pub gives_itself : GivesItself q switches instance
  gives_itself law =
      let accepted = accepts (switches, law) in
      given accepted (lt-leb (2 ^ spot_count q.contents) switches (lawful_below q switches law))
      ∙ ap Ok ((solved_says ms table switches q (left accepted)).1 law)
