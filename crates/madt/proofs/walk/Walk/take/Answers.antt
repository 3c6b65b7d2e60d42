-- `Walk::take` makes of what the structures so far have made what they make with one more.
use Rattle.std.proofs.Common.{◌≡◌, refl, sym, ◌∙◌, ◌<◌, [], ◌∷◌, ◌++◌, arith}
use lib.ListN.{length-append}
use Rattle.words.specs.Bytes.{byte_at}
use Rattle.capture.specs.Pairs.{pins_of}
use Rattle.madt.specs.Pieces.{Whole}
use Rattle.madt.specs.Contents.{of_type, how_many, enabled_cores, found_in, map_of}
use Rattle.madt.specs.Taken.{held}
use Rattle.madt.proofs.Types.{type_yes, type_no, type_other}
use Rattle.madt.proofs.Contents.{count_more, count_same, one_more, one_same, four_more, four_same, of_another_type, by_its_flags, enabled_same, enabled_more}
use Rattle.madt.proofs.Walking.{parts, taken_lem, made_by, noting_same, noting_more, kinds_more, kinds_same, both_at_ht, both_at_eio}
use Rattle.madt.proofs.walk.Walk.take.Goals as goal

pub returns-then-is_enabled : goal.returns-then-is_enabled
unfolding held found_in
returns-then-is_enabled c base sci room all t =
    let s = c.args.structure.now in
    let pins = pins_of c.args.pairs in
    let x : Whole = record { at = c.args.at; bytes = s } in
    let p = parts base sci pins room all in
    let type : byte_at s 0 ≡ 17 = sym c.byte_at.ensures ∙ c.in-17.is in
    let core = type_yes 17 s type in
    let on = by_its_flags s core (rw (sym c.from_bytes.ensures) (sym c.is_enabled.ensures ∙ c.if-is_enabled.true)) in
    rw (t.0, t.1)
    (taken_lem base sci pins room (all ++ (x ∷ []))
    (record { lio = one_same x p.lio (type_other 18 s type refl); ht = one_same x p.ht (type_other 19 s type refl); eios = four_same x p.eios (type_other 20 s type refl); bios = four_same x p.bios (type_other 22 s type refl); msis = four_same x p.msis (type_other 21 s type refl); lpc = one_same x p.lpc (type_other 23 s type refl); number = p.number })
    (rw (enabled_more all x on, length-append (enabled_cores all) (x ∷ [])) refl)
    (rw (count_more 17 all x core) refl)
    (kinds_same base all x refl (type_other 19 s type refl) (type_other 20 s type refl))
    (noting_more all room x refl on refl refl))

pub returns-else-is_enabled : goal.returns-else-is_enabled
unfolding held found_in
returns-else-is_enabled c base sci room all t =
    let s = c.args.structure.now in
    let pins = pins_of c.args.pairs in
    let x : Whole = record { at = c.args.at; bytes = s } in
    let p = parts base sci pins room all in
    let type : byte_at s 0 ≡ 17 = sym c.byte_at.ensures ∙ c.in-17.is in
    let core = type_yes 17 s type in
    let off = by_its_flags s core (rw (sym c.from_bytes.ensures) (sym c.is_enabled.ensures ∙ c.if-is_enabled.false)) in
    rw (t.0, t.1)
    (taken_lem base sci pins room (all ++ (x ∷ []))
    (record { lio = one_same x p.lio (type_other 18 s type refl); ht = one_same x p.ht (type_other 19 s type refl); eios = four_same x p.eios (type_other 20 s type refl); bios = four_same x p.bios (type_other 22 s type refl); msis = four_same x p.msis (type_other 21 s type refl); lpc = one_same x p.lpc (type_other 23 s type refl); number = p.number })
    (rw (enabled_same all x off) refl)
    (rw (count_more 17 all x core) refl)
    (kinds_same base all x refl (type_other 19 s type refl) (type_other 20 s type refl))
    (noting_same all room x refl off))

pub returns-in-18 : goal.returns-in-18
unfolding held found_in
returns-in-18 c base sci room all t =
    let s = c.args.structure.now in
    let pins = pins_of c.args.pairs in
    let x : Whole = record { at = c.args.at; bytes = s } in
    let p = parts base sci pins room all in
    let type : byte_at s 0 ≡ 18 = sym c.byte_at.ensures ∙ c.in-18.is in
    let none = type_other 17 s type refl in
    let off = of_another_type s none in
    rw (c.said_lio-self.ensures, c.from_bytes-in-18.ensures, t.0, t.1)
    (taken_lem base sci pins room (all ++ (x ∷ []))
    (record { lio = one_more x p.lio (type_yes 18 s type); ht = one_same x p.ht (type_other 19 s type refl); eios = four_same x p.eios (type_other 20 s type refl); bios = four_same x p.bios (type_other 22 s type refl); msis = four_same x p.msis (type_other 21 s type refl); lpc = one_same x p.lpc (type_other 23 s type refl); number = p.number })
    (rw (enabled_same all x off) refl)
    (rw (count_same 17 all x none) refl)
    (kinds_same base all x refl (type_other 19 s type refl) (type_other 20 s type refl))
    (noting_same all room x refl off))

pub returns-in-19 : goal.returns-in-19
unfolding held found_in
returns-in-19 c base sci room all t =
    let s = c.args.structure.now in
    let pins = pins_of c.args.pairs in
    let x : Whole = record { at = c.args.at; bytes = s } in
    let p = parts base sci pins room all in
    let type : byte_at s 0 ≡ 19 = sym c.byte_at.ensures ∙ c.in-19.is in
    let none = type_other 17 s type refl in
    let off = of_another_type s none in
    rw (c.or_both-self.ensures, c.from_bytes-self.ensures, t.0, t.1)
    (taken_lem base sci pins room (all ++ (x ∷ []))
    (record { lio = one_same x p.lio (type_other 18 s type refl); ht = one_more x p.ht (type_yes 19 s type); eios = four_same x p.eios (type_other 20 s type refl); bios = four_same x p.bios (type_other 22 s type refl); msis = four_same x p.msis (type_other 21 s type refl); lpc = one_same x p.lpc (type_other 23 s type refl); number = p.number })
    (rw (enabled_same all x off) refl)
    (rw (count_same 17 all x none) refl)
    (kinds_more base all x refl (both_at_ht s pins all (made_by base sci pins room all) type))
    (noting_same all room x refl off))

pub returns-in-20 : goal.returns-in-20
unfolding held found_in map_of of_type
returns-in-20 c base sci room all t =
    let s = c.args.structure.now in
    let pins = pins_of c.args.pairs in
    let x : Whole = record { at = c.args.at; bytes = s } in
    let p = parts base sci pins room all in
    let type : byte_at s 0 ≡ 20 = sym c.byte_at.ensures ∙ c.in-20.is in
    let none = type_other 17 s type refl in
    let off = of_another_type s none in
    let free : how_many 20 all < 4 = rw t.0 at (c.requires.1 type) in
    rw (c.or_both-self-in-20.ensures, c.from_bytes-in-20.ensures, t.0, t.1)
    (taken_lem base sci pins room (all ++ (x ∷ []))
    (record { lio = one_same x p.lio (type_other 18 s type refl); ht = one_same x p.ht (type_other 19 s type refl); eios = four_more x p.eios (type_yes 20 s type) free; bios = four_same x p.bios (type_other 22 s type refl); msis = four_same x p.msis (type_other 21 s type refl); lpc = one_same x p.lpc (type_other 23 s type refl); number = p.number })
    (rw (enabled_same all x off) refl)
    (rw (count_same 17 all x none) refl)
    (kinds_more base all x refl (both_at_eio s pins all (made_by base sci pins room all) type))
    (noting_same all room x refl off))

pub returns-in-21 : goal.returns-in-21
unfolding held found_in map_of of_type
returns-in-21 c base sci room all t =
    let s = c.args.structure.now in
    let pins = pins_of c.args.pairs in
    let x : Whole = record { at = c.args.at; bytes = s } in
    let p = parts base sci pins room all in
    let type : byte_at s 0 ≡ 21 = sym c.byte_at.ensures ∙ c.in-21.is in
    let none = type_other 17 s type refl in
    let off = of_another_type s none in
    let free : how_many 21 all < 4 = rw t.0 at (c.requires.2 type) in
    rw (c.from_bytes-in-21.ensures, t.0, t.1)
    (taken_lem base sci pins room (all ++ (x ∷ []))
    (record { lio = one_same x p.lio (type_other 18 s type refl); ht = one_same x p.ht (type_other 19 s type refl); eios = four_same x p.eios (type_other 20 s type refl); bios = four_same x p.bios (type_other 22 s type refl); msis = four_more x p.msis (type_yes 21 s type) free; lpc = one_same x p.lpc (type_other 23 s type refl); number = p.number })
    (rw (enabled_same all x off) refl)
    (rw (count_same 17 all x none) refl)
    (kinds_same base all x refl (type_other 19 s type refl) (type_other 20 s type refl))
    (noting_same all room x refl off))

pub returns-in-22 : goal.returns-in-22
unfolding held found_in map_of of_type
returns-in-22 c base sci room all t =
    let s = c.args.structure.now in
    let pins = pins_of c.args.pairs in
    let x : Whole = record { at = c.args.at; bytes = s } in
    let p = parts base sci pins room all in
    let type : byte_at s 0 ≡ 22 = sym c.byte_at.ensures ∙ c.in-22.is in
    let none = type_other 17 s type refl in
    let off = of_another_type s none in
    let free : how_many 22 all < 4 = rw t.0 at (c.requires.3 type) in
    rw (c.bridge_of.ensures, t.0, t.1)
    (taken_lem base sci pins room (all ++ (x ∷ []))
    (record { lio = one_same x p.lio (type_other 18 s type refl); ht = one_same x p.ht (type_other 19 s type refl); eios = four_same x p.eios (type_other 20 s type refl); bios = four_more x p.bios (type_yes 22 s type) free; msis = four_same x p.msis (type_other 21 s type refl); lpc = one_same x p.lpc (type_other 23 s type refl); number = p.number })
    (rw (enabled_same all x off) refl)
    (rw (count_same 17 all x none) refl)
    (kinds_same base all x refl (type_other 19 s type refl) (type_other 20 s type refl))
    (noting_same all room x refl off))

pub returns-in-23 : goal.returns-in-23
unfolding held found_in
returns-in-23 c base sci room all t =
    let s = c.args.structure.now in
    let pins = pins_of c.args.pairs in
    let x : Whole = record { at = c.args.at; bytes = s } in
    let p = parts base sci pins room all in
    let type : byte_at s 0 ≡ 23 = sym c.byte_at.ensures ∙ c.in-23.is in
    let none = type_other 17 s type refl in
    let off = of_another_type s none in
    rw (c.from_bytes-self-in-23.ensures, t.0, t.1)
    (taken_lem base sci pins room (all ++ (x ∷ []))
    (record { lio = one_same x p.lio (type_other 18 s type refl); ht = one_same x p.ht (type_other 19 s type refl); eios = four_same x p.eios (type_other 20 s type refl); bios = four_same x p.bios (type_other 22 s type refl); msis = four_same x p.msis (type_other 21 s type refl); lpc = one_more x p.lpc (type_yes 23 s type); number = p.number })
    (rw (enabled_same all x off) refl)
    (rw (count_same 17 all x none) refl)
    (kinds_same base all x refl (type_other 19 s type refl) (type_other 20 s type refl))
    (noting_same all room x refl off))

pub returns-in-0-to-16 : goal.returns-in-0-to-16
unfolding held found_in
returns-in-0-to-16 c base sci room all t =
    let s = c.args.structure.now in
    let pins = pins_of c.args.pairs in
    let x : Whole = record { at = c.args.at; bytes = s } in
    let p = parts base sci pins room all in
    let none = type_no 17 s (λ h. omega arith) in
    let off = of_another_type s none in
    rw (t.0, t.1)
    (taken_lem base sci pins room (all ++ (x ∷ []))
    (record { lio = one_same x p.lio (type_no 18 s (λ h. omega arith)); ht = one_same x p.ht (type_no 19 s (λ h. omega arith)); eios = four_same x p.eios (type_no 20 s (λ h. omega arith)); bios = four_same x p.bios (type_no 22 s (λ h. omega arith)); msis = four_same x p.msis (type_no 21 s (λ h. omega arith)); lpc = one_same x p.lpc (type_no 23 s (λ h. omega arith)); number = p.number })
    (rw (enabled_same all x off) refl)
    (rw (count_same 17 all x none) refl)
    (kinds_same base all x refl (type_no 19 s (λ h. omega arith)) (type_no 20 s (λ h. omega arith)))
    (noting_same all room x refl off))
