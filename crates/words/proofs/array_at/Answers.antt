-- `words::array_at` is the bytes from the offset on, those past the end counted as 0.
use Rattle.std.proofs.Common.{◌≡◌, ◌∙◌, ◌-◌, ap, length, take, drop, take_all, length-drop, get_or-drop, arith, rules}
use Rattle.words.specs.Bytes.{byte_at}
use Rattle.words.proofs.Made.{each_made}
use Rattle.words.proofs.array_at.Goals as goal

pub returns-in-None : goal.returns-in-None
returns-in-None g c i h =
    let bytes = c.args.bytes.now in
    let rest = drop c.args.at bytes in
    let left = length bytes - c.args.at in
    each_made _ (λ k y. y ≡ byte_at (take left rest) k) _ (λ k y q called. search rules) _ _ i 0 c.from_fn.ensures.items h
    ∙ ap (λ bytes. byte_at bytes i) (take_all left rest (omega (arith, length-drop c.args.at bytes)))
    ∙ get_or-drop c.args.at bytes i 0
