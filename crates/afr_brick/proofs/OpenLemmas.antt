-- A copy with an open operation has a number above zero.
use Rattle.std.proofs.Common.{◌≡◌, ◌<◌, ◌==◌, ◌&&◌, Bool, true, false, refl, arith}
use Rattle.std.proofs.lemmas.Bool.Decides.{nat_tests}
use Rattle.std.proofs.Math.Bool.{and-false}
use Rattle.afr_base.specs.Marks.{dirtied, is_no_marks, is_zero_marks, marks_of, with_marks}
use Rattle.afr_base.specs.declared.ids.Kind.{Kind}
use Rattle.afr_base.specs.declared.ids.Kind.TheVariants.{Attrs, Bytes, Names}
use Rattle.afr_base.specs.declared.marks.AllMarks.{AllMarks}

one_of : (a c : Bool) → ((a && false) && c) ≡ false
one_of true c = refl
one_of false c = refl

shown_open : (kind : Kind) (all : AllMarks) → ((marks_of kind all).dirty == 0) ≡ false → is_no_marks all ≡ false
shown_open Bytes all h = rw h refl
shown_open Attrs all h = rw h (one_of (is_zero_marks all.bytes) (is_zero_marks all.names))
shown_open Names all h = rw h (and-false (is_zero_marks all.bytes && is_zero_marks all.attrs))

pub open_kind : (kind : Kind) (all : AllMarks) → 0 < (marks_of kind all).dirty → is_no_marks all ≡ false
open_kind kind all h = shown_open kind all (grind (arith, nat_tests, h))

-- and so has one on which an operation was opened
pub opened : (kind : Kind) (all : AllMarks) → is_no_marks (with_marks kind (dirtied (marks_of kind all)) all) ≡ false
opened Bytes all = open_kind Bytes (with_marks Bytes (dirtied all.bytes) all) (omega arith)
opened Attrs all = open_kind Attrs (with_marks Attrs (dirtied all.attrs) all) (omega arith)
opened Names all = open_kind Names (with_marks Names (dirtied all.names) all) (omega arith)
