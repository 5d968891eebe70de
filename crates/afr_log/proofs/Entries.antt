-- The lines of the entries: at one position, and with one entry more.
use Rattle.std.specs.Prelude.{◌≡◌, ℕ, ◌+◌, List, [], ◌∷◌, ◌++◌, Option, Some, None, length, slice_get, option_map}
use Rattle.std.proofs.Common.{refl, sym, ap, ◌∙◌, arith, zero, suc}
use Rattle.std.proofs.Math.Seq.{get_or-append_seam}
use Rattle.std.proofs.lemmas.List.{map-append, length-append, get_or_append_left}
use Rattle.std.proofs.lemmas.Option.{slice_get-map}
use Rattle.afr_lines.specs.declared.line.Line.{Line}
use Rattle.afr_log.specs.declared.packed.Packed.{Packed}
use Rattle.afr_log.specs.declared.packed.Packed.TheVariants as entry
use Rattle.afr_log.specs.Entries.{AreThere, IsThere, line_of, lines_in, no_line}

-- the line at a position is that of the entry there
pub line_at : (kept : List Line) (packed : List Packed) (i : ℕ) (e : Option Packed) → e ≡ slice_get packed i → option_map (line_of kept) e ≡ slice_get (lines_in kept packed) i
line_at kept packed i e is = ap (option_map (line_of kept)) is ∙ sym (slice_get-map (line_of kept) packed i)

-- and what that entry names is there
pub there_at : (n : ℕ) (packed : List Packed) (i : ℕ) (e : Packed) → AreThere n packed → Some e ≡ slice_get packed i → IsThere n e
there_at n [] i e all is = absurd (grind (arith, is))
there_at n (x ∷ more) zero e all is = let same : e ≡ x = grind (arith, is) in rw same all.0
there_at n (x ∷ more) (suc i) e all is = there_at n more i e all.1 is

-- what the entry that was read names is there
pub entry_there : (kept kept_seen : List Line) (packed seen : List Packed) (i : ℕ) (e : Packed) → kept_seen ≡ kept → seen ≡ packed → Some e ≡ slice_get seen i → AreThere (length kept) packed → IsThere (length kept_seen) e
entry_there kept kept_seen packed seen i e k p is all = rw k (there_at (length kept) packed i e all (rw p at is))

-- and its line stands at this position
pub entry_line : (kept kept_seen : List Line) (packed seen : List Packed) (items : List Line) (i : ℕ) (e : Packed) → kept_seen ≡ kept → seen ≡ packed → lines_in kept packed ≡ items → Some e ≡ slice_get seen i → Some (line_of kept_seen e) ≡ slice_get items i
entry_line kept kept_seen packed seen items i e k p same is = rw k (rw (← same) (line_at kept packed i (Some e) (rw p at is)))

-- no entry, no line
pub no_entry : (kept : List Line) (packed seen : List Packed) (items : List Line) (i : ℕ) → seen ≡ packed → lines_in kept packed ≡ items → None ≡ slice_get seen i → None ≡ slice_get items i
no_entry kept packed seen items i p same is = rw (← same) (line_at kept packed i None (rw p at is))

-- one entry more
pub there_push : (n : ℕ) (packed : List Packed) (e : Packed) → AreThere n packed → IsThere n e → AreThere n (packed ++ e ∷ [])
there_push n [] e all there = (there, tt)
there_push n (x ∷ more) e all there = (all.0, there_push n more e all.1 there)

pub lines_push : (kept : List Line) (packed : List Packed) (e : Packed) (line : Line) → line_of kept e ≡ line → lines_in kept (packed ++ e ∷ []) ≡ lines_in kept packed ++ line ∷ []
lines_push kept packed e line is = map-append (line_of kept) packed (e ∷ []) ∙ ap (λ l. lines_in kept packed ++ l ∷ []) is

module _ (kept : List Line) (line : Line) where
  abbrev more : List Line
  more = kept ++ line ∷ []

  -- with one line more that is kept, each entry names the line that it named
  one : (x : Packed) → IsThere (length kept) x → IsThere (length kept + 1) x × (line_of more x ≡ line_of kept x)
  one (entry.LockRange a b c d e) there = (tt, refl)
  one (entry.LockName a b c d) there = (tt, refl)
  one (entry.UnlockRange a b c d e) there = (tt, refl)
  one (entry.UnlockName a b c d) there = (tt, refl)
  one (entry.Look a b) there = (tt, refl)
  one (entry.FileBytes a b c d e) there = (tt, refl)
  one (entry.FileAttrs a b c d e) there = (tt, refl)
  one (entry.FileBoth a b c d e f) there = (tt, refl)
  one (entry.DirNames a b c d e) there = (tt, refl)
  one (entry.DirAttrs a b c d e) there = (tt, refl)
  one (entry.DirBoth a b c d e f) there = (tt, refl)
  one (entry.ReadBytes a b c d) there = (tt, refl)
  one (entry.ReadName a b c) there = (tt, refl)
  one (entry.List a b) there = (tt, refl)
  one (entry.ReadAttr a b c) there = (tt, refl)
  one (entry.ReadAttrs a b) there = (tt, refl)
  one (entry.Index a) there = (tt, refl)
  one (entry.Pre a b c) there = (tt, refl)
  one (entry.Apply a b) there = (tt, refl)
  one (entry.Post a b c d e) there = (tt, refl)
  one (entry.CutTo a b c) there = (tt, refl)
  one (entry.Copy a b c d e) there = (tt, refl)
  one (entry.PutAttrs a b c) there = (tt, refl)
  one (entry.Settled a b c d) there = (tt, refl)
  one (entry.HealBegun a b c) there = (tt, refl)
  one (entry.HealEnded a b c d) there = (tt, refl)
  one (entry.Kept place) there = (omega (arith, there), get_or_append_left kept (line ∷ []) no_line place there)

  each : (packed : List Packed) → AreThere (length kept) packed → AreThere (length kept + 1) packed × (lines_in more packed ≡ lines_in kept packed)
  each [] all = (tt, refl)
  each (x ∷ rest) all = let first = one x all.0 in let others = each rest all.1 in ((first.0, others.0), grind (arith, first.1, others.1))

  -- the line is kept, and an entry names it
  pub kept_there : (packed : List Packed) (kept_after : List Line) (packed_after : List Packed) → kept_after ≡ more → packed_after ≡ packed ++ entry.Kept (length kept) ∷ [] → AreThere (length kept) packed → AreThere (length kept_after) packed_after
  kept_there packed kept_after packed_after k p all = rw k (rw p (rw (length-append kept (line ∷ [])) (there_push (length kept + 1) packed (entry.Kept (length kept)) (each packed all).0 (omega arith))))

  pub kept_lines : (packed : List Packed) (kept_after : List Line) (packed_after : List Packed) → kept_after ≡ more → packed_after ≡ packed ++ entry.Kept (length kept) ∷ [] → AreThere (length kept) packed → lines_in kept_after packed_after ≡ lines_in kept packed ++ line ∷ []
  kept_lines packed kept_after packed_after k p all = rw k (rw p (lines_push more packed (entry.Kept (length kept)) line (get_or-append_seam kept line [] no_line) ∙ ap (λ l. l ++ line ∷ []) (each packed all).1))
