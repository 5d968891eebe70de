-- The present area of an actor covers each request that changes something.
use Rattle.std.proofs.Common.{Bool, ap, arith, false, inl, inr, refl, subst, sym, true, true≢false, ℕ, ◌+◌, ◌<◌, ◌∙◌, ◌≡◌, ◌≤◌}
use Rattle.std.proofs.lemmas.Bool.Decides.{nat_tests}
use Rattle.std.specs.Prelude.{None, Option, Some, if◌then◌else◌, nat_lt, option_and_then, ◌^◌}
use Rattle.afr_base.specs.declared.ids.Kind.{Kind}
use Rattle.afr_base.specs.declared.ids.Kind.TheVariants.{Attrs, Bytes, Names}
use Rattle.afr_lines.specs.Log.{change_of}
use Rattle.afr_lines.specs.declared.request.Area.{Area}
use Rattle.afr_lines.specs.declared.request.Request.{Request}
use Rattle.afr_lines.specs.declared.request.Request.TheVariants.{Apply, Mend, Post, Pre, Settle}
use Rattle.afr_object.specs.declared.change.Change.{Change}
use Rattle.afr_object.specs.declared.change.Repair.{Repair}
use Rattle.afr_object.specs.declared.change.Repair.TheVariants.{Copy, CutTo, PutAttrs, PutNames}
use Rattle.afr_model_moves.specs.Covering.{AppliesIn, Changes, Covers}
use Rattle.afr_model_moves.specs.Discipline.{MayAskExactly, MovesExactly, present}
use Rattle.afr_model_moves.specs.Heal.{Gives, Goes, MayHeal}
use Rattle.afr_model_moves.specs.Lines.{range_of}
use Rattle.afr_model_moves.specs.Past.{Log, object}
use Rattle.afr_model_moves.specs.Honest.{plane_kind}
use Rattle.afr_model_moves.specs.Register.{Exact, Finish, HealPart, HealPres, Mends, Opening, Piece, PlaneIn, Settles, area_kind, rank, span, whole_area}
use Rattle.afr_model_moves.specs.Steps.{mends_at, onward, pres_at, settles_at}
use Rattle.afr_model_moves.specs.Transaction.{LiesIn, Outside}
use Rattle.afr_law.proofs.Discipline.Cleans.{Shown, clean_now}
use Rattle.afr_law.proofs.Discipline.Inner.{turn_in, turn_low}
use Rattle.afr_law.proofs.Discipline.Stages.{mend_far, onward_far}
use Rattle.afr_law.proofs.Discipline.Transactions.{lies_plane}
use Rattle.afr_law.proofs.Heals.Areas.{AreasIn, areas_now, part_area}
use Rattle.afr_law.proofs.Heals.Mended.{mend_fits}
use Rattle.afr_law.proofs.Heals.Pieces.{PiecesIn, ShortLooks, pieces_now}
use Rattle.afr_law.proofs.Heals.Conditions.{mend_test, mend_turn, onward_kind, onward_object, pre_onward, pre_turn, settle_onward, settle_turn}
use Rattle.afr_model_moves.proofs.Tests.{same_kind_yes}
use Rattle.afr_base.specs.Bricks.{and_left}
use Rattle.std.proofs.lemmas.Bool.{eqb-true}

-- the change of the attempt that the request carries out, by positions
abbrev pub change_there : Log → Request → Option Change
change_there log (Apply q) = option_and_then change_of (log q)
change_there log request = None

-- ---- parts of a heal
-- the whole of a kind lies on its object and in its kind
whole_plane : (g : ℕ) (kind : Kind) → PlaneIn (Some (whole_area g kind)) g kind
whole_plane g Bytes = (refl, refl)
whole_plane g Attrs = (refl, refl)
whole_plane g Names = (refl, refl)

-- a part that is no piece is the whole
whole_part : (g : ℕ) (kind : Kind) (upto : ℕ) (heal_part : HealPart) → (heal_part ≡ Piece → ⊥) → part_area g kind upto heal_part ≡ whole_area g kind
whole_part g kind upto Opening other = refl
whole_part g kind upto Piece other = absurd (other refl)
whole_part g kind upto Finish other = refl

-- a heal raises numbers in its first part
pre_part : (keeps : ℕ → Kind → Bool) (r : Exact) (s b : ℕ) (kind : Kind) (heal_part : HealPart) → ((heal_part ≡ Opening → ⊥) → kind ≡ Bytes) → pres_at keeps r s kind heal_part b ≡ true → heal_part ≡ Piece → ⊥
pre_part keeps r s b Bytes Piece bytes e k = true≢false (sym e)
pre_part keeps r s b Attrs Piece bytes e k = (let w : Attrs ≡ Bytes = bytes (λ o. cc o) in cc w)
pre_part keeps r s b Names Piece bytes e k = (let w : Names ≡ Bytes = bytes (λ o. cc o) in cc w)
pre_part keeps r s b kind Opening bytes e k = cc k
pre_part keeps r s b kind Finish bytes e k = cc k

-- and takes them back in its first or its last
settle_part : (r : Exact) (b : ℕ) (kind : Kind) (heal_part : HealPart) → ((heal_part ≡ Opening → ⊥) → kind ≡ Bytes) → settles_at r kind heal_part b ≡ true → heal_part ≡ Piece → ⊥
settle_part r b Bytes Piece bytes e k = true≢false (sym e)
settle_part r b Attrs Piece bytes e k = (let w : Attrs ≡ Bytes = bytes (λ o. cc o) in cc w)
settle_part r b Names Piece bytes e k = (let w : Names ≡ Bytes = bytes (λ o. cc o) in cc w)
settle_part r b kind Opening bytes e k = cc k
settle_part r b kind Finish bytes e k = cc k

-- of attributes and names there is the first part alone
first_part : (kind : Kind) (heal_part : HealPart) → ((heal_part ≡ Opening → ⊥) → kind ≡ Bytes) → (kind ≡ Bytes → ⊥) → heal_part ≡ Piece → ⊥
first_part kind heal_part bytes other e = other (bytes (λ o. cc (sym e ∙ o)))

-- bytes are mended in the first part and in the pieces
pub piece_is : (keeps : ℕ → Kind → Bool) (r : Exact) (s b : ℕ) (kind : Kind) (heal_part : HealPart) → kind ≡ Bytes → (heal_part ≡ Opening → ⊥) → mends_at keeps r s kind heal_part b ≡ true → heal_part ≡ Piece
piece_is keeps r s b Bytes Opening same later e = absurd (later refl)
piece_is keeps r s b Bytes Piece same later e = refl
piece_is keeps r s b Bytes Finish same later e = absurd (true≢false (sym e))
piece_is keeps r s b kind heal_part same later e = absurd (cc same)

-- a range below 2 ^ 63 is of bytes
low_kind : (g from to : ℕ) → from < 2 ^ 63 → area_kind (range_of g from to) ≡ Bytes
low_kind g from to low = go (nat_lt from (2 ^ 63)) (grind (arith, nat_tests))
  where
    go : (under : Bool) → under ≡ true → (if under then Bytes else Attrs) ≡ Bytes
    go true e = refl
    go false e = absurd (true≢false (sym e))

module _ (n : ℕ) (keeps : ℕ → Kind → Bool) (log : Log) (shown : Shown log) (looks : ShortLooks log) (moves : MovesExactly n keeps log) (t a b : ℕ) where
  -- the register in force
  abbrev here : Exact
  here = present n keeps log t a

  -- ---- in a heal
  module _ (request : Request) (m : MayHeal n keeps here b request) where
    areas : AreasIn here here.law
    areas = areas_now n keeps log moves t a m.inside m.whole

    part : 7 ≤ rank here.step → rank here.step ≤ 11 → here.law.area ≡ Some (part_area here.law.object here.law.kind here.upto here.part)
    part far low = areas.here (inr far) low

    whole : (g : ℕ) (kind : Kind) → onward n keeps here m.source g kind ≡ true → rank here.step ≤ 11 → (here.part ≡ Piece → ⊥) → here.law.area ≡ Some (whole_area g kind)
    whole g kind on low other =
        let object : g ≡ here.law.object = eqb-true g here.law.object (onward_object n keeps here m.source g kind on) in
        let same : kind ≡ here.law.kind = same_kind_yes kind here.law.kind (onward_kind n keeps here m.source g kind on) in
        part (onward_far n keeps here m.source g kind on) low ∙ ap Some (whole_part here.law.object here.law.kind here.upto here.part other) ∙ (λ i. Some (whole_area (sym object i) (sym same i)))

  by_whole : (request : Request) (change : Option Change) (area mine : Area) → here.law.area ≡ Some area → here.law.area ≡ Some mine → Covers area request change → Covers mine request change
  by_whole request change area mine e is covers = (let same : area ≡ mine = cc (sym e ∙ is) in subst (λ (x : Area). Covers x request change) same covers)

  mend_covers : (repair : Repair) → MayHeal n keeps here b (Mend repair) → (mine : Area) → here.law.area ≡ Some mine → Covers mine (Mend repair) None
  mend_covers (CutTo g len) m mine is =
      let test = mend_test n keeps here m.source b (CutTo g len) m.allowed in
      let f = mend_fits n keeps here m.source (CutTo g len) test tt in
      let low : rank here.step ≤ 10 = turn_low n keeps here m.source Mends b (mend_turn n keeps here m.source b (CutTo g len) m.allowed) in
      let area : here.law.area ≡ Some (range_of here.law.object 0 (2 ^ 63)) = part (Mend (CutTo g len)) m (mend_far n keeps here m.source (CutTo g len) test) (omega (arith, low)) ∙ (λ i. Some (part_area here.law.object (f.1 i) here.upto (f.2 i))) in
      by_whole (Mend (CutTo g len)) None (range_of here.law.object 0 (2 ^ 63)) mine area is ((f.0, refl), (sym f.0, omega arith, refl))
  mend_covers (Copy g at some read) m mine is =
      let test = mend_test n keeps here m.source b (Copy g at some read) m.allowed in
      let f = mend_fits n keeps here m.source (Copy g at some read) test tt in
      let turn = mend_turn n keeps here m.source b (Copy g at some read) m.allowed in
      let low : rank here.step ≤ 10 = turn_low n keeps here m.source Mends b turn in
      let heal_part : here.part ≡ Piece = piece_is keeps here m.source b here.law.kind here.part f.1 f.2 (turn_in n keeps here m.source Mends b turn) in
      let pieces : PiecesIn here = pieces_now n keeps log moves looks t a m.inside m.whole in
      let room : here.upto + 131072 ≤ 1048576 = pieces.room heal_part (omega (arith, low)) in
      let area : here.law.area ≡ Some (range_of here.law.object here.upto (here.upto + span)) = part (Mend (Copy g at some read)) m (mend_far n keeps here m.source (Copy g at some read) test) (omega (arith, low)) ∙ (λ i. Some (part_area here.law.object (f.1 i) here.upto (heal_part i))) in
      by_whole (Mend (Copy g at some read)) None (range_of here.law.object here.upto (here.upto + span)) mine area is
      ((f.0, sym (low_kind here.law.object here.upto (here.upto + span) (omega (arith, room)))), (sym f.0, omega (arith, f.3), omega (arith, f.3, f.4), omega (arith, room)))
  mend_covers (PutAttrs g read) m mine is =
      let test = mend_test n keeps here m.source b (PutAttrs g read) m.allowed in
      let on : onward n keeps here m.source g.0 Attrs ≡ true = and_left _ _ test in
      let low : rank here.step ≤ 10 = turn_low n keeps here m.source Mends b (mend_turn n keeps here m.source b (PutAttrs g read) m.allowed) in
      let same : Attrs ≡ here.law.kind = same_kind_yes Attrs here.law.kind (onward_kind n keeps here m.source g.0 Attrs on) in
      let first = first_part here.law.kind here.part (areas (Mend (PutAttrs g read)) m).bytes (λ e. cc (same ∙ e)) in
      by_whole (Mend (PutAttrs g read)) None (whole_area g.0 Attrs) mine (whole (Mend (PutAttrs g read)) m g.0 Attrs on (omega (arith, low)) first) is ((refl, refl), (refl, refl, refl))
  mend_covers (PutNames g reads) m mine is =
      let test = mend_test n keeps here m.source b (PutNames g reads) m.allowed in
      let on : onward n keeps here m.source g.0 Names ≡ true = and_left _ _ (and_left _ _ test) in
      let low : rank here.step ≤ 10 = turn_low n keeps here m.source Mends b (mend_turn n keeps here m.source b (PutNames g reads) m.allowed) in
      let same : Names ≡ here.law.kind = same_kind_yes Names here.law.kind (onward_kind n keeps here m.source g.0 Names on) in
      let first = first_part here.law.kind here.part (areas (Mend (PutNames g reads)) m).bytes (λ e. cc (same ∙ e)) in
      by_whole (Mend (PutNames g reads)) None (whole_area g.0 Names) mine (whole (Mend (PutNames g reads)) m g.0 Names on (omega (arith, low)) first) is ((refl, refl), (refl, refl))

  heal_covers : (request : Request) → MayHeal n keeps here b request → Changes request → (mine : Area) → here.law.area ≡ Some mine → Covers mine request (change_there log request)
  heal_covers (Pre g kind) m so mine is =
      let on = pre_onward n keeps here m.source b g.0 kind m.allowed in
      let turn = pre_turn n keeps here m.source b g.0 kind m.allowed in
      let low : rank here.step ≤ 9 = turn_low n keeps here m.source HealPres b turn in
      let first = pre_part keeps here m.source b here.law.kind here.part (areas (Pre g kind) m).bytes (turn_in n keeps here m.source HealPres b turn) in
      by_whole (Pre g kind) None (whole_area g.0 kind) mine (whole (Pre g kind) m g.0 kind on (omega (arith, low)) first) is (whole_plane g.0 kind)
  heal_covers (Settle g kind less) m so mine is =
      let on = settle_onward n keeps here m.source b g.0 kind less m.allowed in
      let turn = settle_turn n keeps here m.source b g.0 kind less m.allowed in
      let low : rank here.step ≤ 11 = turn_low n keeps here m.source Settles b turn in
      let ends = settle_part here b here.law.kind here.part (areas (Settle g kind less) m).bytes (turn_in n keeps here m.source Settles b turn) in
      by_whole (Settle g kind less) None (whole_area g.0 kind) mine (whole (Settle g kind less) m g.0 kind on low ends) is refl
  heal_covers (Mend repair) m so mine is = mend_covers repair m mine is
  heal_covers (Apply q) m so mine is = absurd (true≢false (sym m.allowed))
  heal_covers (Post q g kind missed) m so mine is = absurd (true≢false (sym m.allowed))
  heal_covers request m so mine is = absurd so

  -- ---- outside a heal
  outside_covers : (request : Request) → here.law.heal ≡ false → Outside n keeps here b request → Changes request → (mine : Area) → here.law.area ≡ Some mine → Covers mine request (change_there log request)
  outside_covers (Pre g kind) out may so mine is = subst (λ (o : Option Area). PlaneIn o g.0 kind) is may.plane
  outside_covers (Post q g kind missed) out may so mine is = subst (λ (o : Option Area). PlaneIn o g.0 kind) is may.plane
  outside_covers (Apply q) out may so mine is =
      let clear = clean_now n keeps log shown moves t a out in
      let w = clear.begun q may.own in
      let lies : LiesIn (Some mine) w.change = subst (λ (o : Option Area). LiesIn o w.change) is w.lies in
      let plane : PlaneIn (Some mine) (object w.change) (plane_kind w.change) = lies_plane mine w.change (clear.valid mine is) lies in
      subst (AppliesIn mine) (sym (ap (option_and_then change_of) w.is)) (plane, lies)
  outside_covers (Mend repair) out may so mine is = absurd may
  outside_covers (Settle g kind less) out may so mine is = absurd may
  outside_covers request out may so mine is = absurd so

  pub covers_now : (request : Request) → MayAskExactly n keeps here b request → Changes request → (mine : Area) → here.law.area ≡ Some mine → Covers mine request (change_there log request)
  covers_now request (inl k) so mine is = outside_covers request k.0 k.1 so mine is
  covers_now request (inr (Goes m)) so mine is = heal_covers request m so mine is
  covers_now (Pre g kind) (inr (Gives inside broken free)) so mine is = absurd free
  covers_now (Apply q) (inr (Gives inside broken free)) so mine is = absurd free
  covers_now (Post q g kind missed) (inr (Gives inside broken free)) so mine is = absurd free
  covers_now (Mend repair) (inr (Gives inside broken free)) so mine is = absurd free
  covers_now (Settle g kind less) (inr (Gives inside broken free)) so mine is = absurd free
  covers_now request (inr (Gives inside broken free)) so mine is = absurd so
