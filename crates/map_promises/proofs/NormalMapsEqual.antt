-- Two maps whose unused places hold 0 are equal where they are the same map. So `Normal` names every unused place.
use Prim.Native.Nat.{ℕ, ◌<◌, ◌≤◌}
use native.Mathlib.Omega.{arith}
use mathlib.Core.Path.{◌≡◌, refl, sym, ◌∙◌, ap}
use mathlib.Core.Logic.{⊎_elim}
use mathlib.Core.List.{List}
use mathlib.Core.Bool.{Bool, true, false}
use borrow.Author.Tests.{eqb-true}
use lib.Dec.{eqb}
use lib.ListN.{length, take, get_or}
use lib.Seq.{get_or-take, ext_get_or}
use Rattle.words.specs.Choice.{if}
use Rattle.words.proofs.Choices.{yes_if, no_if}
use Rattle.kinds.specs.Used.{no_half, used_half, said_lio, said_ht, said_lpc, no_ht, no_eio, no_bio, no_msi, no_lpc}
use Rattle.kinds.specs.declared.Half.{Half}
use Rattle.kinds.specs.declared.Lio.{Lio}
use Rattle.kinds.specs.declared.Ht.{Ht}
use Rattle.kinds.specs.declared.Eio.{Eio}
use Rattle.kinds.specs.declared.Bio.{Bio}
use Rattle.kinds.specs.declared.Msi.{Msi}
use Rattle.kinds.specs.declared.Lpc.{Lpc}
use Rattle.lines.specs.Says.{Said}
use Rattle.lines.specs.declared.Map.{Map}
use Rattle.map_promises.specs.Walks.{NormalMapsEqual}
use Rattle.map_promises.proofs.Logic.{order}

-- arrays of four with the same used part, and nothing in the rest
same_array : {A : Type 0} (none : A) (n m : ℕ) (a b : List A) → n ≡ m → length a ≡ 4 → length b ≡ 4 → take n a ≡ take m b
    → ((i : ℕ) → n ≤ i → get_or a i none ≡ none) → ((i : ℕ) → m ≤ i → get_or b i none ≡ none) → a ≡ b
same_array {A} none n m a b c la lb used ra rb =
    ext_get_or none a b (la ∙ sym lb)
    (λ i h. ⊎_elim
    (λ (l : i < n). sym (get_or-take n a i none l) ∙ ap (λ (x : List A). get_or x i none) used ∙ get_or-take m b i none (omega arith))
    (λ w. let past : n ≤ i = ⊎_elim (λ e. omega arith) (λ g. omega arith) w in ra i past ∙ sym (rb i (omega arith)))
    (order i n))

-- a half, a LIO, an HT and an LPC with nothing unused say all that they have
half_said : (half : Half) → (half.mask ≡ 0 → half.cascade ≡ 0) → used_half half ≡ half
unfolding used_half if
half_said half h = go (eqb half.mask 0) refl
  where
    made : {c c' m m' : ℕ} → c ≡ c' → m ≡ m' → ◌≡◌ {A = Half} (record { cascade = c; mask = m }) (record { cascade = c'; mask = m' })
    made p q = rw (p, q)

    go : (b : Bool) → eqb half.mask 0 ≡ b → (if {A = Half} b no_half half) ≡ half
    go true e = let z = eqb-true half.mask 0 e in made (sym (h z)) (sym z)
    go false e = refl

made-lio : {p q : Bool} {l l' h h' : Half} → p ≡ q → l ≡ l' → h ≡ h'
    → ◌≡◌ {A = Lio} (record { present = p; low = l; high = h }) (record { present = q; low = l'; high = h' })
made-lio a b c = rw (a, b, c)

lio_said : (x : Lio) → (x.low.mask ≡ 0 → x.low.cascade ≡ 0) → (x.high.mask ≡ 0 → x.high.cascade ≡ 0)
    → (x.present ≡ false → (x.low ≡ no_half) × (x.high ≡ no_half)) → said_lio x ≡ x
unfolding said_lio
lio_said x low high none = go x.present refl
  where
    go : (b : Bool) → x.present ≡ b → said_lio x ≡ x
    go true e = yes_if _ _ _ e ∙ made-lio (sym e) (half_said x.low low) (half_said x.high high)
    go false e = no_if _ _ _ e (made-lio (sym e) (sym (none e).0) (sym (none e).1))

ht_said : (x : Ht) → (x.present ≡ false → x ≡ no_ht) → said_ht x ≡ x
unfolding said_ht
ht_said x none = go x.present refl
  where
    go : (b : Bool) → x.present ≡ b → said_ht x ≡ x
    go true e = yes_if _ _ _ e
    go false e = no_if _ _ _ e (sym (none e))

lpc_said : (x : Lpc) → (x.present ≡ false → x ≡ no_lpc) → said_lpc x ≡ x
unfolding said_lpc
lpc_said x none = go x.present refl
  where
    go : (b : Bool) → x.present ≡ b → said_lpc x ≡ x
    go true e = yes_if _ _ _ e
    go false e = no_if _ _ _ e (sym (none e))

-- a map is its fields
made-map : {lio lio' : Lio} {ht ht' : Ht} {ec ec' bc bc' mc mc' sci sci' : ℕ} {eios eios' : List Eio} {bios bios' : List Bio} {msis msis' : List Msi} {lpc lpc' : Lpc}
    → lio ≡ lio' → ht ≡ ht' → ec ≡ ec' → eios ≡ eios' → bc ≡ bc' → bios ≡ bios' → mc ≡ mc' → msis ≡ msis' → lpc ≡ lpc' → sci ≡ sci'
    → ◌≡◌ {A = Map}
    (record { lio = lio; ht = ht; eiocount = ec; eios = eios; biocount = bc; bios = bios; msicount = mc; msis = msis; lpc = lpc; sci = sci })
    (record { lio = lio'; ht = ht'; eiocount = ec'; eios = eios'; biocount = bc'; bios = bios'; msicount = mc'; msis = msis'; lpc = lpc'; sci = sci' })
made-map a b c d e f g h i j = rw (a, b, c, d, e, f, g, h, i, j)

-- THE PROMISE
pub normal_maps_equal : (map other : Map) → NormalMapsEqual map other
normal_maps_equal map other n k same =
    let said = same.said in
    made-map
    (sym (lio_said map.lio n.low n.high n.nolio) ∙ ap (λ (s : Said). s.lio) said ∙ lio_said other.lio k.low k.high k.nolio)
    (sym (ht_said map.ht n.noht) ∙ ap (λ (s : Said). s.ht) said ∙ ht_said other.ht k.noht)
    same.eiocount
    (same_array no_eio _ _ _ _ same.eiocount n.foureios k.foureios (ap (λ (s : Said). s.eios) said) n.eios k.eios)
    same.biocount
    (same_array no_bio _ _ _ _ same.biocount n.fourbios k.fourbios (ap (λ (s : Said). s.bios) said) n.bios k.bios)
    same.msicount
    (same_array no_msi _ _ _ _ same.msicount n.fourmsis k.fourmsis (ap (λ (s : Said). s.msis) said) n.msis k.msis)
    (sym (lpc_said map.lpc n.nolpc) ∙ ap (λ (s : Said). s.lpc) said ∙ lpc_said other.lpc k.nolpc)
    (ap (λ (s : Said). s.sci) said)
