-- A shortcut of the program, and no line of document 01: what the walk holds behind some structures of the MADT at a place. That behind
-- all of them it holds what Walk says is proved in proofs/Walking, so that no answer changes.
use Rattle.std.specs.Prelude.{ℕ, ◌≡◌, ◌<◌, List, []}
use Rattle.std.proofs.lemmas.List.Edits.{sets}
use Rattle.words.specs.Bytes.{byte_at}
use Rattle.words.specs.Refusals.{first_refusal}
use Rattle.madt.specs.Pieces.{Whole}
use Rattle.madt.specs.Contents.{how_many, enabled_cores, offsets_of, found_in}
use Rattle.madt.specs.Walk.{kind_rules}
use Rattle.madt.specs.declared.walk.Walk.{Walk}

-- what they make, how many CORE there are, enabled or not, and what 34 says of them
unfoldable pub held : ℕ → ℕ → (ℕ → ℕ) → List Whole → Walk
held base sci pins all =
    record { base = base; found = found_in base sci pins all; cores = how_many 17 all; mixed = first_refusal (kind_rules base [] all) }

-- and a lent room, in whose front it is noted where the enabled CORE stand
abbrev pub Taken : ℕ → ℕ → (ℕ → ℕ) → List ℕ → List Whole → Walk → List ℕ → Type 0
Taken base sci pins room all walk offsets = (walk ≡ held base sci pins all) × (offsets ≡ sets room 0 (offsets_of (enabled_cores all)))

-- there is room for a structure whose own bytes are s
abbrev pub HasRoom : List ℕ → Walk → Type 0
HasRoom s walk =
    (byte_at s 0 ≡ 17 → (walk.found.enabled < 256) × (walk.cores < 256))
    × (byte_at s 0 ≡ 20 → walk.found.map.eiocount < 4)
    × (byte_at s 0 ≡ 21 → walk.found.map.msicount < 4)
    × (byte_at s 0 ≡ 22 → walk.found.map.biocount < 4)
