-- `first_broken` asks a structure's rules in their order, by the structure's own kind.
use mathlib.Core.Path.{◌≡◌, sym, ◌∙◌}
use lib.Dec.{leb}
use Rattle.std.proofs.Common.{rules, arith}
use Rattle.std.specs.Prelude.{Some, None}
use Rattle.std.specs.Bool.{then_some}
use Rattle.std.specs.Option.{option_or}
use Rattle.words.specs.Bytes.{byte_at}
use Rattle.kinds.specs.Makers.{reserved_flags, core_of, lio_of, ht_of, eio_of, msi_of, bio_of, lpc_of}
use Rattle.kinds.specs.Ranges.{lio_field, ht_field, eio_field, msi_field, bio_field, lpc_field, bit_in_both}
use Rattle.madt.specs.Rules.{length_of}
use Rattle.madt.proofs.Contents.{full_core, full_lio, full_ht, full_eio, full_msi, full_bio, full_lpc}
use Rattle.madt.proofs.Checks.{length-wrong, length_right, version-wrong, version_right, has_length, no_length, alone, then_full, flags_then_full, masks_then_full, at_32, at_33, for_core, for_lio, for_ht, for_eio, for_msi, for_bio, for_lpc, passed_over, one_of_seven}
use Rattle.madt.proofs.rules.first_broken.Goals as goal

pub returns-in_err-length_of : goal.returns-in_err-length_of
returns-in_err-length_of c = λ place pins all by.
    let n : c.from_residual.result ≡ None = search rules in
    let l : length_of c.args.structure.now ≡ None = search rules in
    rw n (sym (passed_over _ _ _ (no_length _ l)))

pub returns-then-branch : goal.returns-then-branch
returns-then-branch c = λ place pins all by.
    let s = c.args.structure.now in
    let k : length_of s ≡ Some c.in_ok-length_of.field-0 = search rules in
    sym (at_32 _ _ s (length-wrong s k (λ h. c.if-branch.true (c.byte_at.ensures ∙ h))))

pub returns-then-byte_at-ne-KNOWN_VERSION : goal.returns-then-byte_at-ne-KNOWN_VERSION
returns-then-byte_at-ne-KNOWN_VERSION c = λ place pins all by.
    let s = c.args.structure.now in
    let k : length_of s ≡ Some c.in_ok-length_of.field-0 = search rules in
    sym (at_33 _ _ s (length_right s k (cc)) (version-wrong s (has_length s k) (λ h. c.if-byte_at-ne-KNOWN_VERSION.true (c.byte_at-2.ensures ∙ h))))

pub returns-in-17 : goal.returns-in-17
returns-in-17 c = λ place pins all by.
    let s = c.args.structure.now in
    let k : length_of s ≡ Some c.in_ok-length_of.field-0 = search rules in
    let t : byte_at s 0 ≡ 17 = sym c.byte_at-3.ensures ∙ c.in-17.is in
    rw (c.or.ensures, c.then_some-flags.ensures, c.reserved_flags.ensures, c.then_some.ensures, c.from_bytes.ensures)
    (flags_then_full place (reserved_flags (core_of s)) (leb 256 c.args.cores)
    ∙ sym (for_core place _ s (length_right s k (cc)) (version_right s (has_length s k) (cc)) (full_core s pins all by t) t))

pub returns-in-18 : goal.returns-in-18
returns-in-18 c = λ place pins all by.
    let s = c.args.structure.now in
    let k : length_of s ≡ Some c.in_ok-length_of.field-0 = search rules in
    let t : byte_at s 0 ≡ 18 = sym c.byte_at-3.ensures ∙ c.in-18.is in
    let own : c.or-in-18.result ≡ option_or (lio_field (lio_of s)) (then_some (bit_in_both (lio_of s)) 37) = search rules in
    rw (c.or-in-18-2.ensures, own, c.then_some-in-18.ensures)
    (masks_then_full place (lio_field (lio_of s)) (bit_in_both (lio_of s)) c.args.map.now.lio.present
    ∙ sym (for_lio place _ s (length_right s k (cc)) (version_right s (has_length s k) (cc)) (full_lio s pins all by t) t))

pub returns-in-19 : goal.returns-in-19
returns-in-19 c = λ place pins all by.
    let s = c.args.structure.now in
    let k : length_of s ≡ Some c.in_ok-length_of.field-0 = search rules in
    let t : byte_at s 0 ≡ 19 = sym c.byte_at-3.ensures ∙ c.in-19.is in
    rw (c.ht_field.ensures, c.from_bytes-in-19.ensures)
    (alone place (ht_field (ht_of s))
    ∙ sym (for_ht place _ s (length_right s k (cc)) (version_right s (has_length s k) (cc)) (full_ht s pins all by t) t))

pub returns-in-20 : goal.returns-in-20
returns-in-20 c = λ place pins all by.
    let s = c.args.structure.now in
    let k : length_of s ≡ Some c.in_ok-length_of.field-0 = search rules in
    let t : byte_at s 0 ≡ 20 = sym c.byte_at-3.ensures ∙ c.in-20.is in
    rw (c.or-in-20.ensures, c.eio_field-field.ensures, c.then_some-in-20.ensures, c.from_bytes-in-20.ensures)
    (then_full place (eio_field (eio_of s)) (leb 4 c.args.map.now.eiocount)
    ∙ sym (for_eio place _ s (length_right s k (cc)) (version_right s (has_length s k) (cc)) (full_eio s pins all by t) t))

pub returns-in-21 : goal.returns-in-21
returns-in-21 c = λ place pins all by.
    let s = c.args.structure.now in
    let k : length_of s ≡ Some c.in_ok-length_of.field-0 = search rules in
    let t : byte_at s 0 ≡ 21 = sym c.byte_at-3.ensures ∙ c.in-21.is in
    rw (c.or-in-21.ensures, c.msi_field-field.ensures, c.then_some-in-21.ensures, c.from_bytes-in-21.ensures)
    (then_full place (msi_field (msi_of s)) (leb 4 c.args.map.now.msicount)
    ∙ sym (for_msi place _ s (length_right s k (cc)) (version_right s (has_length s k) (cc)) (full_msi s pins all by t) t))

pub returns-in-22 : goal.returns-in-22
returns-in-22 c = λ place pins all by.
    let s = c.args.structure.now in
    let k : length_of s ≡ Some c.in_ok-length_of.field-0 = search rules in
    let t : byte_at s 0 ≡ 22 = sym c.byte_at-3.ensures ∙ c.in-22.is in
    rw (c.or-in-22.ensures, c.bio_field-field.ensures, c.then_some-in-22.ensures, c.from_bytes-in-22.ensures)
    (then_full place (bio_field (bio_of s)) (leb 4 c.args.map.now.biocount)
    ∙ sym (for_bio place _ s (length_right s k (cc)) (version_right s (has_length s k) (cc)) (full_bio s pins all by t) t))

pub returns-in-23 : goal.returns-in-23
returns-in-23 c = λ place pins all by.
    let s = c.args.structure.now in
    let k : length_of s ≡ Some c.in_ok-length_of.field-0 = search rules in
    let t : byte_at s 0 ≡ 23 = sym c.byte_at-3.ensures ∙ c.in-23.is in
    rw (c.or-in-23.ensures, c.lpc_field-field.ensures, c.then_some-in-23.ensures, c.from_bytes-in-23.ensures)
    (then_full place (lpc_field (lpc_of s)) c.args.map.now.lpc.present
    ∙ sym (for_lpc place _ s (length_right s k (cc)) (version_right s (has_length s k) (cc)) (full_lpc s pins all by t) t))

pub returns-in-0-to-16 : goal.returns-in-0-to-16
returns-in-0-to-16 c = λ place pins all by.
    let s = c.args.structure.now in
    let k : length_of s ≡ Some c.in_ok-length_of.field-0 = search rules in
    absurd (one_of_seven s (has_length s k)
    (λ h. omega arith)
    (λ h. omega arith)
    (λ h. omega arith)
    (λ h. omega arith)
    (λ h. omega arith)
    (λ h. omega arith)
    (λ h. omega arith))
