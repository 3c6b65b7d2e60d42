-- The places that 61 gives to the structures of a map tell them apart.
use Prim.Native.Nat.{ℕ, zero, suc, ◌+◌, ◌<◌, ◌≤◌}
use native.Mathlib.Omega.{arith}
use mathlib.Core.Path.{◌≡◌, refl, ap}
use mathlib.Core.List.{[], ◌∷◌}
use lib.ListN.{length, get_or, length-take}
use Rattle.lines.specs.Says.{says}
use Rattle.lines.specs.Rules.{slot_places}
use Rattle.lines.specs.declared.Map.{Map}
use Rattle.map_promises.specs.Structures.{Structure, lio, eio, bio, msi, IsIn, place_of, Placed}

four : (a i : ℕ) → i < 4 → get_or (a ∷ suc a ∷ suc (suc a) ∷ suc (suc (suc a)) ∷ []) i 0 ≡ a + i
four a zero k = omega arith
four a (suc zero) k = omega arith
four a (suc (suc zero)) k = omega arith
four a (suc (suc (suc zero))) k = omega arith
four a (suc (suc (suc (suc i)))) k = absurd (omega arith)

pub slots_placed : (map : Map) → (map.eiocount ≤ 4) × (map.biocount ≤ 4) × (map.msicount ≤ 4) → Placed (says map) slot_places
slots_placed map n =
    record {
      eios = omega (arith, length-take map.eiocount map.eios);
      bios = omega (arith, length-take map.biocount map.bios);
      msis = omega (arith, length-take map.msicount map.msis);
      apart = go;
    }
  where
    e4 : (i : ℕ) → i < length (says map).eios → (i < 4) × (get_or slot_places.eios i 0 ≡ 2 + i)
    e4 i k = let l : i < 4 = omega (arith, length-take map.eiocount map.eios) in (l, four 2 i l)

    b4 : (i : ℕ) → i < length (says map).bios → (i < 4) × (get_or slot_places.bios i 0 ≡ 6 + i)
    b4 i k = let l : i < 4 = omega (arith, length-take map.biocount map.bios) in (l, four 6 i l)

    m4 : (i : ℕ) → i < length (says map).msis → (i < 4) × (get_or slot_places.msis i 0 ≡ 10 + i)
    m4 i k = let l : i < 4 = omega (arith, length-take map.msicount map.msis) in (l, four 10 i l)

    go : (s t : Structure) → IsIn (says map) s → IsIn (says map) t → place_of slot_places s ≡ place_of slot_places t → s ≡ t
    go lio lio u v e = refl
    go lio (eio j) u v e = absurd (omega (arith, (e4 j v).1))
    go lio (bio j) u v e = absurd (omega (arith, (b4 j v).1))
    go lio (msi j) u v e = absurd (omega (arith, (m4 j v).1))
    go (eio i) lio u v e = absurd (omega (arith, (e4 i u).1))
    go (eio i) (eio j) u v e = ap eio (omega (arith, (e4 i u).1, (e4 j v).1))
    go (eio i) (bio j) u v e = absurd (omega (arith, (b4 j v).1, (e4 i u).0, (e4 i u).1))
    go (eio i) (msi j) u v e = absurd (omega (arith, (m4 j v).1, (e4 i u).0, (e4 i u).1))
    go (bio i) lio u v e = absurd (omega (arith, (b4 i u).1))
    go (bio i) (eio j) u v e = absurd (omega (arith, (b4 i u).1, (e4 j v).0, (e4 j v).1))
    go (bio i) (bio j) u v e = ap bio (omega (arith, (b4 i u).1, (b4 j v).1))
    go (bio i) (msi j) u v e = absurd (omega (arith, (m4 j v).1, (b4 i u).0, (b4 i u).1))
    go (msi i) lio u v e = absurd (omega (arith, (m4 i u).1))
    go (msi i) (eio j) u v e = absurd (omega (arith, (m4 i u).1, (e4 j v).0, (e4 j v).1))
    go (msi i) (bio j) u v e = absurd (omega (arith, (m4 i u).1, (b4 j v).0, (b4 j v).1))
    go (msi i) (msi j) u v e = ap msi (omega (arith, (m4 i u).1, (m4 j v).1))
