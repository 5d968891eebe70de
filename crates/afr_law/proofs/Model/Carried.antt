-- What a repair carries is what the values by positions say at its reads.
use Rattle.std.proofs.Common.{◌≡◌, ℕ, ◌+◌, ◌-◌, ◌<◌, ◌≤◌, ◌^◌, max, Bool, true, false, ◌&&◌, ◌==◌, not, true≢false, refl, sym, ◌∙◌, ap, subst, arith, List, [], ◌∷◌, length, Option, None, Some, if◌then◌else◌, take, drop, length-take, length-drop, ltb}
use Rattle.std.specs.Prelude.{nat_lt}
use Rattle.std.proofs.lemmas.Bool.Decides.{nat_tests}
use Rattle.std.proofs.lemmas.List.{get_or_past, get_or-drop}
use Rattle.afr_base.specs.declared.ids.Gfid.{Gfid}
use Rattle.afr_base.specs.declared.ids.Kind.{Kind}
use Rattle.afr_base.specs.declared.ids.Kind.TheVariants.{Bytes, Attrs, Names}
use Rattle.afr_object.specs.Bytes.{byte_at, is_within}
use Rattle.afr_object.specs.BytesLemmas.{byte_at-take}
use Rattle.afr_object.specs.Tables.{Table, copy_at}
use Rattle.afr_object.specs.declared.change.Repair.{Repair}
use Rattle.afr_object.specs.declared.change.Repair.TheVariants.{CutTo, Copy, PutAttrs, PutNames}
use Rattle.afr_object.specs.Object.{Object}
use Rattle.afr_lines.specs.Log.{from_oldest}
use Rattle.afr_lines.specs.declared.line.Line.{Line}
use Rattle.afr_lines.specs.declared.request.Request.{Request}
use Rattle.afr_lines.specs.declared.request.Request.TheVariants as request
use Rattle.afr_plan.specs.declared.plan.Plan.{Plan}
use Rattle.afr_model.specs.Tables.{held_before, keeps_bytes, content_in, attrs_in, names_in, bytes_shown, attrs_shown, names_shown, all_names_shown, carried}
use Rattle.afr_model_moves.specs.Cells.{Cell, Byte, Attr, Entry, kind_of, is_cell}
use Rattle.afr_law_tables.specs.Codes.{kind_in, code_in, kept_by}
use Rattle.afr_model_moves.specs.Rules.{Register, ReadOf, EachRead, BringsSeen, repair_kind}
use Rattle.afr_model_moves.specs.Past.{Log, before, brick_of, kind_at, most, value, values}
use Rattle.afr_model_moves.proofs.ByPosition.{IsPast, before_past}
use Rattle.afr_model_moves.specs.Positions.{by_position}
use Rattle.afr_law.proofs.Safety.Touches.{values_at}
use Rattle.afr_law.proofs.Model.SoundLog.{AllSound, shown_sound, carried_sound}
use Rattle.afr_law.proofs.Model.Mended.{Carries, keyed, piece_byte}
use Rattle.afr_law_tables.proofs.Merged.{AllRise, led, most_led, led_merged}
use Rattle.afr_law.specs.Beginning.{start_of}
use Rattle.afr_law_tables.proofs.Values.{code_of, none_past}
use Rattle.afr_law.specs.ModelLaw.{IsReadAt, NamesReads}

-- a brick that keeps bytes carries them out
pub kept_bytes : (p : Plan) (b : ℕ) (kind : Kind) → kept_by p b kind ≡ true → kind ≡ Bytes → keeps_bytes p b ≡ true
kept_bytes p b kind kept is = go (nat_lt b 5) p.shape.arbiter (b == 2) (subst (λ (k : Kind). kept_by p b k ≡ true) is kept)
  where
    go : (low arbiter two : Bool) → (low && not (arbiter && true && two)) ≡ true → not (arbiter && two) ≡ true
    go true true true h = h
    go true true false h = refl
    go true false two h = refl
    go false arbiter two h = absurd (true≢false (sym h))

-- the kinds and values by positions at k are those of these tables
pub record SameAt (p : Plan) (n : ℕ) (L : Log) (k : ℕ) (t : ℕ → Table) : Type 0 where
  pub kinds : (b g : ℕ) → kind_at (start_of p n) L k b g ≡ kind_in (t b) g
  pub codes : (b : ℕ) (cell : Cell) → is_cell cell ≡ true → (kind_of cell ≡ Bytes → keeps_bytes p b ≡ true) → value (start_of p n) L k b cell ≡ code_in (t b) cell

-- the bytes of a copy, taken out and put at the place that they were taken from
piece_of : (at span i : ℕ) (content : List ℕ) → is_within at span i ≡ true → piece_byte at (take span (drop at content)) i ≡ byte_at i content
piece_of at span i content inside = go (is_within at (length (take span (drop at content))) i) refl
  where
    place : at + (i - at) ≡ i
    place = (let w = from_place at span i inside in omega (arith, w))
      where
        from_place : (at span i : ℕ) → is_within at span i ≡ true → at ≤ i
        from_place at span i e = grind (arith, nat_tests, e)

    low : (i - at) < span
    low = (let w = within at span i inside in omega (arith, w))
      where
        within : (at span i : ℕ) → is_within at span i ≡ true → (i < at + span) × (at ≤ i)
        within at span i e = grind (arith, nat_tests, e)

    past : (at len i : ℕ) → at ≤ i → is_within at len i ≡ false → at + len ≤ i
    past at len i low e = grind (arith, nat_tests, low, e)

    taken : byte_at (i - at) (take span (drop at content)) ≡ byte_at i content
    taken =
        let yes : ltb (i - at) span ≡ true = grind (arith, nat_tests, low) in
        byte_at-take (i - at) span (drop at content) ∙ rw yes (get_or-drop at content (i - at) 0 ∙ ap (λ (k : ℕ). byte_at k content) place)

    go : (one : Bool) → is_within at (length (take span (drop at content))) i ≡ one → (if one then byte_at (i - at) (take span (drop at content)) else 0) ≡ byte_at i content
    go true e = taken
    go false e =
        let after = past at (length (take span (drop at content))) i (omega (arith, place)) e in
        sym (get_or_past content i 0 (omega (arith, after, place, low, length-take span (drop at content), length-drop at content)))

module _ (p : Plan) (n : ℕ) (L : Log) (older : List Line) (h : IsPast L older) (same : (k : ℕ) → k < length older → SameAt p n L k (held_before p older k)) (sound : (k b : ℕ) → AllSound n (held_before p older k b)) where
  -- what stands in a cell where a line has read
  abbrev shown : ℕ → Cell → ℕ
  shown k cell = values (start_of p n) L (length older) k (brick_of (before L (length older) k)) cell

  -- a source of a repair, and the read that showed it
  at_read : (bricks a : ℕ) (r : Register) (k : ℕ) (asked : Request) (cell : Cell) → is_cell cell ≡ true → kind_of cell ≡ r.kind → ReadOf bricks (kept_by p) (by_position older) (length older) a r k → (w : IsReadAt older asked k)
      → shown k cell ≡ code_in (held_before p older k w.brick.0) cell
  at_read bricks a r k asked cell real kind from w =
      let brick : w.brick.0 ≡ from.s = cc (w.line, from.is) in
      let kept : kept_by p w.brick.0 (kind_of cell) ≡ true = subst (λ (x : ℕ). kept_by p x (kind_of cell) ≡ true) (sym brick) (subst (λ (x : Kind). kept_by p from.s x ≡ true) (sym kind) from.source.copy) in
      (λ i. values (start_of p n) L (length older) k (brick_of ((before_past L older h k ∙ w.line) i)) cell)
      ∙ values_at (start_of p n) L (length older) k w.brick.0 cell (omega (arith, from.past))
      ∙ (same k from.past).codes w.brick.0 cell real (kept_bytes p w.brick.0 (kind_of cell) kept)

  -- of a piece of bytes
  bytes_carried : (bricks a : ℕ) (r : Register) (g : Gfid) (at span k i : ℕ) → nat_lt i (2 ^ 63) ≡ true → is_within at span i ≡ true → Bytes ≡ r.kind → ReadOf bricks (kept_by p) (by_position older) (length older) a r k → IsReadAt older (request.ReadBytes g at span) k
      → piece_byte at (bytes_shown (held_before p older) k (from_oldest k older)) i ≡ shown k (Byte g.0 i)
  bytes_carried bricks a r g at span k i real inside kind from w =
      (λ j. piece_byte at (bytes_shown (held_before p older) k (w.line j)) i)
      ∙ piece_of at span i (content_in (copy_at g (held_before p older k w.brick.0))) inside
      ∙ of_copy (copy_at g (held_before p older k w.brick.0))
      ∙ sym (at_read bricks a r k (request.ReadBytes g at span) (Byte g.0 i) real kind from w)
    where
      of_copy : (o : Option Object) → byte_at i (content_in o) ≡ code_of (Byte g.0 i) o
      of_copy None = none_past i
      of_copy (Some o) = refl

  short_carried : (g : Gfid) (at span k : ℕ) → IsReadAt older (request.ReadBytes g at span) k → length (bytes_shown (held_before p older) k (from_oldest k older)) ≤ span
  short_carried g at span k w = subst (λ (line : Option Line). length (bytes_shown (held_before p older) k line) ≤ span) (sym w.line) (omega (arith, length-take span (drop at (content_in (copy_at g (held_before p older k w.brick.0))))))

  -- of attributes
  attrs_carried : (bricks a : ℕ) (r : Register) (g : Gfid) (k key : ℕ) → Attrs ≡ r.kind → ReadOf bricks (kept_by p) (by_position older) (length older) a r k → IsReadAt older (request.ReadAttrs g) k
      → keyed key (attrs_shown (held_before p older) k (from_oldest k older)) ≡ shown k (Attr g.0 key)
  attrs_carried bricks a r g k key kind from w =
      (λ j. keyed key (attrs_shown (held_before p older) k (w.line j)))
      ∙ of_copy (copy_at g (held_before p older k w.brick.0))
      ∙ sym (at_read bricks a r k (request.ReadAttrs g) (Attr g.0 key) refl kind from w)
    where
      of_copy : (o : Option Object) → keyed key (attrs_in o) ≡ code_of (Attr g.0 key) o
      of_copy None = refl
      of_copy (Some o) = refl

  -- of names
  names_carried : (bricks a : ℕ) (r : Register) (g : Gfid) (k m : ℕ) → Names ≡ r.kind → ReadOf bricks (kept_by p) (by_position older) (length older) a r k → IsReadAt older (request.List g) k
      → led m (names_shown (held_before p older) k (from_oldest k older)) ≡ shown k (Entry g.0 m)
  names_carried bricks a r g k m kind from w =
      (λ j. led m (names_shown (held_before p older) k (w.line j)))
      ∙ of_copy (copy_at g (held_before p older k w.brick.0))
      ∙ sym (at_read bricks a r k (request.List g) (Entry g.0 m) refl kind from w)
    where
      of_copy : (o : Option Object) → led m (names_in o) ≡ code_of (Entry g.0 m) o
      of_copy None = refl
      of_copy (Some o) = refl

  all_carried : (bricks a : ℕ) (r : Register) (g : Gfid) (m : ℕ) (reads : List (Option ℕ)) → Names ≡ r.kind → EachRead (ReadOf bricks (kept_by p) (by_position older) (length older) a r) reads → EachRead (IsReadAt older (request.List g)) reads
      → most_led m (all_names_shown (held_before p older) older reads) ≡ most (λ k. shown k (Entry g.0 m)) reads
  all_carried bricks a r g m [] kind from w = refl
  all_carried bricks a r g m (None ∷ reads) kind from w = all_carried bricks a r g m reads kind from w
  all_carried bricks a r g m (Some k ∷ reads) kind from w = λ i. max (names_carried bricks a r g k m kind from.0 w.0 i) (all_carried bricks a r g m reads kind from.1 w.1 i)

  all_rise : (g : Gfid) (reads : List (Option ℕ)) → EachRead (IsReadAt older (request.List g)) reads → AllRise (all_names_shown (held_before p older) older reads)
  all_rise g [] w = tt
  all_rise g (None ∷ reads) w = all_rise g reads w
  all_rise g (Some k ∷ reads) w = ((shown_sound p n older (held_before p older) sound g k w.0).0, all_rise g reads w.1)

  -- what a lawful repair carries
  pub carries : (bricks a : ℕ) (r : Register) (repair : Repair) → repair_kind repair ≡ r.kind → BringsSeen bricks (kept_by p) (by_position older) (length older) a r repair → NamesReads repair older
      → Carries n (before L (length older)) (values (start_of p n) L (length older)) repair (carried (held_before p older) older repair)
  carries bricks a r (CutTo g len) kind from w = tt
  carries bricks a r (Copy g at span read) kind from w = (short_carried g at span read w, λ i real inside. bytes_carried bricks a r g at span read i real inside kind from w)
  carries bricks a r (PutAttrs g read) kind from w = λ key. attrs_carried bricks a r g read key kind from w
  carries bricks a r (PutNames g reads) kind from w =
      let fit = carried_sound p n older (held_before p older) sound (PutNames g reads) w in
      (fit.0, fit.1, λ m. led_merged (all_names_shown (held_before p older) older reads) m (all_rise g reads w) ∙ all_carried bricks a r g m reads kind from.0 w)
