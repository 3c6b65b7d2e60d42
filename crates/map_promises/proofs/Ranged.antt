-- What 71 to 78, and 61 of the number of inputs, tell of the structures of a map.
use Prim.Native.Nat.{ℕ, ◌+◌, ◌<◌, ◌≤◌}
use mathlib.Core.Path.{◌≡◌, refl, sym}
use mathlib.Core.Bool.{Bool, true, false, not, ◌&&◌, true≢false}
use borrow.Author.Tests.{leb-true, ne_eqb}
use lib.Dec.{eqb, leb}
use lib.ListN.{length}
use Rattle.std.specs.Prelude.{Option, None, Some, is_none}
use Rattle.words.specs.Choice.{if}
use Rattle.kinds.specs.Ranges.{cascade_fits, node_fits, count_fits, end_fits, base_fits, pins_fit, input_fits, half_fits, lio_field, ht_field, eio_field, bio_field, msi_field, lpc_field}
use Rattle.kinds.specs.Used.{no_eio, no_bio, no_msi}
use Rattle.kinds.specs.declared.Half.{Half}
use Rattle.kinds.specs.declared.Lio.{Lio}
use Rattle.kinds.specs.declared.Eio.{Eio}
use Rattle.kinds.specs.declared.Bio.{Bio}
use Rattle.kinds.specs.declared.Msi.{Msi}
use Rattle.kinds.specs.declared.Lpc.{Lpc}
use Rattle.clashes.proofs.Logic.{and_left, and_right}
use Rattle.lines.specs.Says.{Said}
use Rattle.lines.specs.Rules.{eios_fit, bios_fit, msis_fit, ranges_kept}
use Rattle.map_promises.specs.Sources.{eio_at, bio_at, msi_at}
use Rattle.map_promises.proofs.Members.{every-at}

-- no field is told only by the test that guards it
fits_of : (t : Bool) (n : ℕ) → is_none (if t None (Some n)) ≡ true → t ≡ true
unfolding if
fits_of true n h = refl
fits_of false n h = absurd (true≢false (sym h))

-- and behind a test that is kept
kept_of : (t : Bool) (n : ℕ) (later : Option ℕ) → is_none (if (not t) (Some n) later) ≡ true → (t ≡ true) × (is_none later ≡ true)
unfolding if
kept_of true n later h = (refl, h)
kept_of false n later h = absurd (true≢false (sym h))

eio_right : (e : Eio) → is_none (eio_field e) ≡ true → (2 ≤ e.cascade) × (e.node ≤ 63) × (e.cascade ≤ 9)
unfolding eio_field
eio_right e h =
    let a = kept_of (cascade_fits e.cascade) 71 _ h in
    let b = kept_of (node_fits e.node) 72 _ a.1 in (
      leb-true 2 e.cascade (and_left (leb 2 e.cascade) (leb e.cascade 9) a.0),
      leb-true e.node 63 b.0,
      leb-true e.cascade 9 (and_right (leb 2 e.cascade) (leb e.cascade 9) a.0),
    )

bio_right : (b : Bio) → (is_none (bio_field b) && pins_fit b.pins) ≡ true
    → (b.node ≤ 63) × (64 ≤ b.base) × (b.base ≤ 65472) × (1 ≤ b.pins) × (b.pins ≤ 64)
unfolding bio_field
bio_right b h =
    let a = kept_of (node_fits b.node) 72 _ (and_left (is_none (bio_field b)) (pins_fit b.pins) h) in
    let n = and_right (is_none (bio_field b)) (pins_fit b.pins) h in
    let f = fits_of (base_fits b.base) 76 a.1 in (
      leb-true b.node 63 a.0,
      leb-true 64 b.base (and_left (leb 64 b.base) (leb b.base 65472) f),
      leb-true b.base 65472 (and_right (leb 64 b.base) (leb b.base 65472) f),
      leb-true 1 b.pins (and_left (leb 1 b.pins) (leb b.pins 64) n),
      leb-true b.pins 64 (and_right (leb 1 b.pins) (leb b.pins 64) n),
    )

msi_right : (m : Msi) → is_none (msi_field m) ≡ true → (1 ≤ m.count) × (m.start + m.count ≤ 256)
unfolding msi_field
msi_right m h =
    let a = kept_of (count_fits m.count) 74 _ h in (
      leb-true 1 m.count a.0,
      leb-true (m.start + m.count) 256 (fits_of (end_fits m.start m.count) 75 a.1),
    )

lio_right : (lio : Lio) → is_none (lio_field lio) ≡ true → (half_fits lio.low ≡ true) × (half_fits lio.high ≡ true)
unfolding lio_field
lio_right lio h =
    let f = fits_of (half_fits lio.low && half_fits lio.high) 71 h in
    (and_left (half_fits lio.low) (half_fits lio.high) f, and_right (half_fits lio.low) (half_fits lio.high) f)

lpc_right : (lpc : Lpc) → is_none (lpc_field lpc) ≡ true → lpc.cascade ≤ 63
unfolding lpc_field
lpc_right lpc h = leb-true lpc.cascade 63 (fits_of (input_fits lpc.cascade) 77 h)

-- a used half enters one of the core's hardware lines
half_used : (half : Half) → half_fits half ≡ true → (half.mask ≡ 0 → ⊥) → (2 ≤ half.cascade) × (half.cascade ≤ 9)
half_used half h n =
    let z : eqb half.mask 0 ≡ false = ne_eqb half.mask 0 n in
    let f : cascade_fits half.cascade ≡ true = rw z at h in (
      leb-true 2 half.cascade (and_left (leb 2 half.cascade) (leb half.cascade 9) f),
      leb-true half.cascade 9 (and_right (leb 2 half.cascade) (leb half.cascade 9) f),
    )

module _ (said : Said) (ranged : ranges_kept said ≡ true) where
  abbrev l : Bool
  l = is_none (lio_field said.lio) && is_none (ht_field said.ht)

  to_msis : (l && eios_fit said.eios && bios_fit said.bios && msis_fit said.msis) ≡ true
  unfolding ranges_kept
  to_msis = and_left (l && eios_fit said.eios && bios_fit said.bios && msis_fit said.msis) (is_none (lpc_field said.lpc)) ranged

  to_bios : (l && eios_fit said.eios && bios_fit said.bios) ≡ true
  to_bios = and_left (l && eios_fit said.eios && bios_fit said.bios) (msis_fit said.msis) to_msis

  to_eios : (l && eios_fit said.eios) ≡ true
  to_eios = and_left (l && eios_fit said.eios) (bios_fit said.bios) to_bios

  pub eio-fits : (e : ℕ) → e < length said.eios → (2 ≤ (eio_at said e).cascade) × ((eio_at said e).node ≤ 63) × ((eio_at said e).cascade ≤ 9)
  unfolding eios_fit
  eio-fits e k =
      eio_right (eio_at said e) (every-at no_eio (λ x. is_none (eio_field x)) said.eios (and_right l (eios_fit said.eios) to_eios) e k)

  pub bio-fits : (j : ℕ) → j < length said.bios
      → ((bio_at said j).node ≤ 63) × (64 ≤ (bio_at said j).base) × ((bio_at said j).base ≤ 65472)
      × (1 ≤ (bio_at said j).pins) × ((bio_at said j).pins ≤ 64)
  unfolding bios_fit
  bio-fits j k =
      bio_right (bio_at said j)
      (every-at no_bio (λ x. is_none (bio_field x) && pins_fit x.pins) said.bios (and_right (l && eios_fit said.eios) (bios_fit said.bios) to_bios) j k)

  pub msi-fits : (m : ℕ) → m < length said.msis → (1 ≤ (msi_at said m).count) × ((msi_at said m).start + (msi_at said m).count ≤ 256)
  unfolding msis_fit
  msi-fits m k =
      msi_right (msi_at said m)
      (every-at no_msi (λ x. is_none (msi_field x)) said.msis
      (and_right (l && eios_fit said.eios && bios_fit said.bios) (msis_fit said.msis) to_msis) m k)

  halves : (half_fits said.lio.low ≡ true) × (half_fits said.lio.high ≡ true)
  halves = lio_right said.lio (and_left (is_none (lio_field said.lio)) (is_none (ht_field said.ht)) (and_left l (eios_fit said.eios) to_eios))

  pub low_used : (said.lio.low.mask ≡ 0 → ⊥) → (2 ≤ said.lio.low.cascade) × (said.lio.low.cascade ≤ 9)
  low_used = half_used said.lio.low halves.0

  pub high_used : (said.lio.high.mask ≡ 0 → ⊥) → (2 ≤ said.lio.high.cascade) × (said.lio.high.cascade ≤ 9)
  high_used = half_used said.lio.high halves.1

  pub lpc-fits : said.lpc.cascade ≤ 63
  unfolding ranges_kept
  lpc-fits =
      lpc_right said.lpc
      (and_right (l && eios_fit said.eios && bios_fit said.bios && msis_fit said.msis) (is_none (lpc_field said.lpc)) ranged)
