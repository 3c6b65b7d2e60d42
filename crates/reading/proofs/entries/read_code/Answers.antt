-- `reading::entries::read_code` is the count, or the refusal as a number.
use mathlib.Core.Path.{sym, ◌∙◌}
use Rattle.reading.proofs.Laws.{code_read, code-refused}
use Rattle.reading.proofs.entries.read_code.Goals as goal

pub returns-in-Ok : goal.returns-in-Ok
returns-in-Ok c = sym (code_read _ c.in-Ok.is)

pub returns-in-Err : goal.returns-in-Err
returns-in-Err c = c.refusal_code.ensures ∙ sym (code-refused _ c.in-Err.is)
