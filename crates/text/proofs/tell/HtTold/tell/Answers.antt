-- A line for an HT that is there.
use Rattle.std.proofs.Common.{◌≡◌, rules}
use Rattle.std.proofs.lemmas.Grind.{same_number_lists}
use Rattle.text.specs.Numerals.{letters}
use Rattle.text.proofs.ByCase.{ht_absent, ht_there}
use Rattle.text.proofs.Wrote.{nothing}
use Rattle.text.proofs.tell.HtTold.tell.Goals as goal

pub returns-then-self : goal.returns-then-self
unfolding letters
returns-then-self c =
    let same : c.map.result ≡ c.args.self.now.bytes =
    same_number_lists _ _ (search rules) (λ k h. let one = c.map.ensures.items.at k 0 0 (search rules) in search rules) in
    rw (ht_there c.args.self.now c.if-self.true, ← same) c.line.ensures

pub returns-else-self : goal.returns-else-self
returns-else-self c = rw (ht_absent c.args.self.now c.if-self.false) (nothing _)
