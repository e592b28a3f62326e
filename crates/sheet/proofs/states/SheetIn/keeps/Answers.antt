use Rattle.sheet.specs.History.{ledger_in}
use Rattle.sheet.proofs.Histories.{kept_of}
use Rattle.sheet.proofs.LiveTerms.{few_terms}
use Rattle.sheet.proofs.states.SheetIn.keeps.Goals as goal

pub returns : goal.returns
returns g c =
    let s = c.args.self.now in
    let l = ledger_in s in
    let kept = kept_of l s.kept in
    record { kept = kept; few_terms = few_terms l kept; told = s.told }
