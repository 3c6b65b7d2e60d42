-- What is said of a LIO, of an HT and of an LPC, said again, is the same; and what is not used in it is 0.
use mathlib.Core.Path.{◌≡◌, refl, sym, ◌∙◌, ap}
use mathlib.Core.Bool.{Bool, true, false, true≢false}
use borrow.Author.Tests.{eqb-true, eq-eqb}
use lib.Dec.{eqb}
use Rattle.words.specs.Choice.{if}
use Rattle.words.proofs.Choices.{yes_if, no_if, if_cases}
use Rattle.kinds.specs.Ranges.{half_fits}
use Rattle.kinds.specs.Used.{no_half, used_half, said_lio, no_ht, said_ht, no_lpc, said_lpc}
use Rattle.kinds.specs.declared.Half.{Half}
use Rattle.kinds.specs.declared.Lio.{Lio}
use Rattle.kinds.specs.declared.Ht.{Ht}
use Rattle.kinds.specs.declared.Lpc.{Lpc}

pub half_mask : (half : Half) → (used_half half).mask ≡ half.mask
unfolding used_half if
half_mask half = go (eqb half.mask 0) refl
  where
    go : (b : Bool) → eqb half.mask 0 ≡ b → (if {A = Half} b no_half half).mask ≡ half.mask
    go true e = sym (eqb-true half.mask 0 e)
    go false e = refl

pub half_fits_lem : (half : Half) → half_fits half ≡ true → half_fits (used_half half) ≡ true
unfolding used_half
half_fits_lem half h = if_cases (λ (x : Half). half_fits x ≡ true) (eqb half.mask 0) no_half half (λ t. refl) (λ t. h)

pub half_again : (half : Half) → used_half (used_half half) ≡ used_half half
unfolding used_half if
half_again half = go (eqb half.mask 0) refl
  where
    go : (b : Bool) → eqb half.mask 0 ≡ b → used_half (if {A = Half} b no_half half) ≡ (if {A = Half} b no_half half)
    go true e = refl
    go false e = no_if _ _ _ e refl

-- an unused half says 0, and so does a LIO, an HT or an LPC that is absent
half_unused : (half : Half) → used_half half ≡ half → half.mask ≡ 0 → half.cascade ≡ 0
unfolding used_half if
half_unused half e m = let z : no_half ≡ half = rw (eq-eqb half.mask 0 m) at e in ap (λ (x : Half). x.cascade) (sym z)

-- so do the halves of what is said
pub lio_said : (lio : Lio)
    → ((said_lio lio).low.mask ≡ 0 → (said_lio lio).low.cascade ≡ 0) × ((said_lio lio).high.mask ≡ 0 → (said_lio lio).high.cascade ≡ 0)
unfolding said_lio
lio_said lio =
    if_cases (λ (x : Lio). (x.low.mask ≡ 0 → x.low.cascade ≡ 0) × (x.high.mask ≡ 0 → x.high.cascade ≡ 0)) lio.present _ _
    (λ t. (half_unused (used_half lio.low) (half_again lio.low), half_unused (used_half lio.high) (half_again lio.high)))
    (λ t. ((λ z. refl), (λ z. refl)))

pub lio_unused : (x : Lio) (present : Bool) → x.present ≡ present → said_lio x ≡ x
    → (x.low.mask ≡ 0 → x.low.cascade ≡ 0) × (x.high.mask ≡ 0 → x.high.cascade ≡ 0)
    × (x.present ≡ false → (x.low ≡ no_half) × (x.high ≡ no_half))
unfolding said_lio
lio_unused x true p e =
    let z : record { present = true; low = used_half x.low; high = used_half x.high } ≡ x = sym (yes_if _ _ _ p) ∙ e in (
      half_unused x.low (ap (λ (y : Lio). y.low) z),
      half_unused x.high (ap (λ (y : Lio). y.high) z),
      λ q. absurd (true≢false (sym p ∙ q)),
    )
lio_unused x false p e =
    let z : record { present = false; low = no_half; high = no_half } ≡ x = sym (no_if _ _ _ p refl) ∙ e in
    let low : x.low ≡ no_half = ap (λ (y : Lio). y.low) (sym z) in
    let high : x.high ≡ no_half = ap (λ (y : Lio). y.high) (sym z) in
    ((λ m. ap (λ (h : Half). h.cascade) low), (λ m. ap (λ (h : Half). h.cascade) high), λ q. (low, high))

pub ht_unused : (x : Ht) → said_ht x ≡ x → x.present ≡ false → x ≡ no_ht
unfolding said_ht
ht_unused x e p = sym e ∙ no_if _ _ _ p refl

pub lpc_unused : (x : Lpc) → said_lpc x ≡ x → x.present ≡ false → x ≡ no_lpc
unfolding said_lpc
lpc_unused x e p = sym e ∙ no_if _ _ _ p refl
