use Rattle.std.proofs.Common.{ap, ◌∙◌}
use Rattle.sheet_file.specs.Reading.{is_late}
use Rattle.sheet_file.proofs.TooLate.{never_late}
use Rattle.sheet_file.proofs.reader.Reader.new.Goals as goal

pub returns-clause-between : goal.returns-clause-between
returns-clause-between c = λ number. ap (λ l. is_late l number) c.new-2.ensures ∙ never_late number
