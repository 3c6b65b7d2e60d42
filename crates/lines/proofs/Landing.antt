-- Laws of hubs: what is searched among those of a map, by whether it has an HT.
use Prim.Native.Nat.{ℕ, ◌+◌, ◌-◌, ◌≤◌, ◌<◌}
use native.Mathlib.Nat.{sub-zero}
use native.Mathlib.Omega.{arith}
use mathlib.Core.Path.{◌≡◌, refl, sym, ◌∙◌}
use mathlib.Core.Bool.{Bool, true, false, not, ◌&&◌}
use mathlib.Core.List.{List, [], ◌∷◌, map}
use borrow.Author.Tests.{le-leb, lt-leb, eq-eqb, ne_eqb}
use lib.Dec.{eqb, leb}
use lib.ListN.{length, length-map}
use Rattle.std.specs.List.{find}
use Rattle.std.specs.Option.{option_map_or}
use Rattle.words.specs.Choice.{if}
use Rattle.words.specs.Lists.{first, every}
use Rattle.words.proofs.Searches.{first_find}
use Rattle.words.proofs.Choices.{yes_if, no_if}
use Rattle.kinds.specs.declared.Lio.{Lio}
use Rattle.kinds.specs.declared.Ht.{Ht}
use Rattle.kinds.specs.declared.Eio.{Eio}
use Rattle.kinds.proofs.Used.{ht_present}
use Rattle.parts.specs.Inputs.{core_vector, input_for}
use Rattle.lines.specs.Says.{Said, says}
use Rattle.lines.specs.Hubs.{eio_hub, ht_hub, hubs_of, enters}
use Rattle.lines.specs.Routes.{through}
use Rattle.lines.specs.Traces.{landed, comes_by, hub_traced}
use Rattle.lines.specs.declared.Map.{Map}
use Rattle.lines.specs.declared.Route.TheVariants.{Arrives, NoOwner}
use Rattle.lines.specs.declared.Trace.TheVariants.{Nothing}

-- a search and a test of what the elements of a list are made into are a search and a test of these elements
pub first_made : {A B R : Type 0} (make : A → B) (test : B → Bool) (found : B → R) (none : R) (l : List A)
    → first test found none (map make l) ≡ first (λ x. test (make x)) (λ x. found (make x)) none l
unfolding first
first_made make test found none [] = refl
first_made make test found none (x ∷ xs) = rw (first_made make test found none xs)

pub every_made : {A B : Type 0} (make : A → B) (test : B → Bool) (l : List A) → every test (map make l) ≡ every (λ x. test (make x)) l
every_made make test [] = refl
every_made make test (x ∷ xs) = rw (every_made make test xs)

-- the HT alone, or the EIO
pub ht_alone : (lio : Lio) (ht : Ht) (eios : List Eio) → ht.present ≡ true → hubs_of lio ht eios ≡ ht_hub lio ht ∷ []
unfolding hubs_of
ht_alone lio ht eios h = yes_if _ _ _ h

pub eios_only : (lio : Lio) (ht : Ht) (eios : List Eio) → ht.present ≡ false → hubs_of lio ht eios ≡ map eio_hub eios
unfolding hubs_of
eios_only lio ht eios h = no_if _ _ _ h refl

-- through the EIO of a node: at its cascade, with the vector
pub through-eios : (eios : List Eio) (node v : ℕ)
    → through (map eio_hub eios) node v ≡ first (λ e. eqb e.node node) (λ e. Arrives e.cascade v) NoOwner eios
unfolding through
through-eios eios node v =
    let as-it-is : 0 + v ≡ v = omega arith in
    rw as-it-is at (first_made eio_hub (λ h. eqb h.node node) (λ h. enters h v) NoOwner eios)

-- what comes by an EIO: to its cascade, with the vector it has landed on
pub traced-eios : (said : Said) (vector number : ℕ) → said.ht.present ≡ false
    → first (λ e. eqb e.cascade vector) (λ e. landed said e.node number) Nothing said.eios ≡ hub_traced said vector number
unfolding hub_traced comes_by
traced-eios said vector number none =
    let any : leb 0 number ≡ true = le-leb 0 number (omega arith) in
    rw (eios_only said.lio said.ht said.eios none)
    (sym (rw (sub-zero, any) at (first_made eio_hub (comes_by vector number) (λ h. landed said h.node (number - h.above)) Nothing said.eios)))

-- both by std's `find`, for the program
pub eios_entered : (eios : List Eio) (node v : ℕ)
    → through (map eio_hub eios) node v ≡ option_map_or (λ e. Arrives e.cascade v) (find (λ e. eqb e.node node) eios) NoOwner
eios_entered eios node v = through-eios eios node v ∙ first_find _ _ _ _

pub eios_traced : (map : Map) (vector number : ℕ) → map.ht.present ≡ false
    → hub_traced (says map) vector number ≡ option_map_or (λ e. landed (says map) e.node number) (find (λ e. eqb e.cascade vector) (says map).eios) Nothing
eios_traced map vector number none = sym (traced-eios (says map) vector number (ht_present map.ht ∙ none)) ∙ first_find _ _ _ _

-- what comes by the HT: it lands on the vector that the number is 256 above, if this leads to the core vector
module _ (said : Said) (vector number : ℕ) (there : said.ht.present ≡ true) where
  traced-ht : hub_traced said vector number
      ≡ if (leb 256 number && eqb (core_vector said.lio (input_for said.ht (number - 256))) vector) (landed said 0 (number - 256)) Nothing
  unfolding hub_traced comes_by first
  traced-ht = rw (ht_alone said.lio said.ht said.eios there)

  pub ht_below : number < 256 → hub_traced said vector number ≡ Nothing
  unfolding if
  ht_below l = rw (traced-ht, lt-leb 256 number l)

  pub ht-leads : 256 ≤ number → core_vector said.lio (input_for said.ht (number - 256)) ≡ vector → hub_traced said vector number ≡ landed said 0 (number - 256)
  unfolding if
  ht-leads l e = rw (traced-ht, le-leb 256 number l, eq-eqb (core_vector said.lio (input_for said.ht (number - 256))) vector e)

  pub ht-not : 256 ≤ number → (core_vector said.lio (input_for said.ht (number - 256)) ≡ vector → ⊥) → hub_traced said vector number ≡ Nothing
  unfolding if
  ht-not l n = rw (traced-ht, le-leb 256 number l, ne_eqb (core_vector said.lio (input_for said.ht (number - 256))) vector n)

-- how many hubs there are
pub hubs_counted : (lio : Lio) (ht : Ht) (eios : List Eio) → eqb (length (hubs_of lio ht eios)) 0 ≡ (not ht.present && eqb (length eios) 0)
unfolding hubs_of if
hubs_counted lio ht eios = go ht.present
  where
    go : (b : Bool) → eqb (length (if b (ht_hub lio ht ∷ []) (map eio_hub eios))) 0 ≡ (not b && eqb (length eios) 0)
    go true = refl
    go false = rw (length-map eios eio_hub)
