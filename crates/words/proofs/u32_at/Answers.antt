-- `words::u32_at` is the 32-bit number, its bytes past the end counted as 0.
use Rattle.std.proofs.Common.{◌∙◌}
use Rattle.words.proofs.Numbers.{number_read}
use Rattle.words.proofs.u32_at.Goals as goal

pub returns : goal.returns
returns c = c.from_le_bytes.ensures ∙ number_read 3 c.args.bytes.now c.array_at.result c.args.at c.array_at.ensures
