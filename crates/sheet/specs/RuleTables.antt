-- The rules of a sheet as tables of terms.
use Rattle.std.specs.Prelude.{◌≡◌, ℕ, Some}
use Rattle.tables.specs.NormalForm.{HasTable}
use Rattle.sheet.specs.Ledger.{LiveRule, Contents}

-- the terms of every live rule are the normal form of their sum, as the two conversions of a table show it
abbrev pub RulesHaveTables : Contents → Type 0
RulesHaveTables c = (number : ℕ) (r : LiveRule) → c.rules number ≡ Some r → HasTable r.terms
