-- Document 01, "Ranges (H)", one test for each field; and the first field of a structure that is out of its range, by the number that
-- W-202 of document 02 gives it.
use Rattle.std.specs.Prelude.{ℕ, ◌+◌, Bool, not, ◌&&◌, ◌||◌, eqb, leb, Option, None, Some}
use Rattle.std.specs.Int.Bits.{bit_and}
use Rattle.words.specs.Choice.{if}
use Rattle.words.specs.Lists.{every}
use Rattle.kinds.specs.declared.Half.{Half}
use Rattle.kinds.specs.declared.Lio.{Lio}
use Rattle.kinds.specs.declared.Ht.{Ht}
use Rattle.kinds.specs.declared.Eio.{Eio}
use Rattle.kinds.specs.declared.Bio.{Bio}
use Rattle.kinds.specs.declared.Msi.{Msi}
use Rattle.kinds.specs.declared.Lpc.{Lpc}

-- "the cascade of EIO and of a used LIO half 2 to 9 (the core's hardware lines)"
abbrev pub cascade_fits : ℕ → Bool
cascade_fits cascade = leb 2 cascade && leb cascade 9

-- "node and hardware ID 0 to 63"
abbrev pub node_fits : ℕ → Bool
node_fits node = leb node 63

-- "node map not 0"
abbrev pub nodes_fit : ℕ → Bool
nodes_fit nodes = not (eqb nodes 0)

-- "MSI count at least 1"
abbrev pub count_fits : ℕ → Bool
count_fits count = leb 1 count

-- "start + count at most 256, added without wrap"
abbrev pub end_fits : ℕ → ℕ → Bool
end_fits start count = leb (start + count) 256

-- "GSI base 64 to 65,472"
abbrev pub base_fits : ℕ → Bool
base_fits base = leb 64 base && leb base 65472

-- W-212 of document 02: "number of inputs 1 to 64". No structure has it, and no number refuses it here: a capture's pairs are held
-- to it by 7, and a map by 61.
abbrev pub pins_fit : ℕ → Bool
pins_fit pins = leb 1 pins && leb pins 64

-- "LPC cascade 0 to 63"
abbrev pub input_fits : ℕ → Bool
input_fits cascade = leb cascade 63

-- W-201 of document 02: a byte of the HT names "a wired LIO input, 0 to 31"; whether that input is wired is 44's question
abbrev pub byte_fits : ℕ → Bool
byte_fits byte = leb byte 31

-- "a half with mask 0 is unused and its byte is free"
abbrev pub half_fits : Half → Bool
half_fits half = eqb half.mask 0 || cascade_fits half.cascade

abbrev pub halves_fit : Lio → Bool
halves_fit lio = half_fits lio.low && half_fits lio.high

-- ---- the first field of a structure that is out of its range, by the number that refuses it: "71 cascade of EIO or LIO, 72 node
-- or hardware ID, 73 node map, 74 MSI count, 75 MSI end, 76 GSI base, 77 LPC cascade, 78 HT byte"; none where every field is in its range
unfoldable pub lio_field : Lio → Option ℕ
lio_field lio = if (halves_fit lio) None (Some 71)

unfoldable pub ht_field : Ht → Option ℕ
ht_field ht = if (every byte_fits ht.bytes) None (Some 78)

unfoldable pub eio_field : Eio → Option ℕ
eio_field eio =
    if (not (cascade_fits eio.cascade)) (Some 71)
    (if (not (node_fits eio.node)) (Some 72)
    (if (nodes_fit eio.nodes) None (Some 73)))

unfoldable pub msi_field : Msi → Option ℕ
msi_field msi =
    if (not (count_fits msi.count)) (Some 74)
    (if (end_fits msi.start msi.count) None (Some 75))

unfoldable pub bio_field : Bio → Option ℕ
bio_field bio =
    if (not (node_fits bio.node)) (Some 72)
    (if (base_fits bio.base) None (Some 76))

unfoldable pub lpc_field : Lpc → Option ℕ
lpc_field lpc = if (input_fits lpc.cascade) None (Some 77)

-- ---- 37: a bit in both LIO masks
abbrev pub bit_in_both : Lio → Bool
bit_in_both lio = not (eqb (bit_and lio.low.mask lio.high.mask) 0)
