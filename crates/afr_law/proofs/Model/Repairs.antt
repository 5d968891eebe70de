-- The next Mend line of an honest log that keeps the discipline in full can be carried out; so can every line.
use Rattle.std.proofs.Common.{◌≡◌, ℕ, ◌+◌, ◌<◌, ◌≤◌, Bool, true, inl, inr, refl, sym, ◌∙◌, ap, subst, arith, List, [], ◌∷◌, length, Option, None, Some, take, drop, length-take}
use Rattle.std.specs.Prelude.{IfSome}
use Rattle.std.specs.Cmp.{ranks}
use Rattle.std.specs.List.{AllByRecursion}
use Rattle.std.specs.List.Sorted.{IsStrictlySortedBy}
use Rattle.std.specs.Map.{keys_of}
use Rattle.std.specs.Ordering.{MatchOrdering, nat_cmp}
use Rattle.std.specs.declared.cmp.Ordering.{Ordering}
use Rattle.std.specs.declared.cmp.Ordering.TheVariants.{Equal, Greater, Less}
use Rattle.afr_base.specs.declared.ids.ActorId.{ActorId}
use Rattle.afr_base.specs.declared.ids.BrickId.{BrickId}
use Rattle.afr_base.specs.declared.ids.Gfid.{Gfid}
use Rattle.afr_base.specs.declared.ids.KeyId.{KeyId}
use Rattle.afr_base.specs.declared.ids.Kind.{Kind}
use Rattle.afr_base.specs.declared.ids.NameId.{NameId}
use Rattle.afr_base.specs.declared.ids.ValueId.{ValueId}
use Rattle.afr_object.specs.State.{CanRepair, IsInOrder}
use Rattle.afr_law_tables.specs.Fits.{FitsSums}
use Rattle.afr_lines.specs.Log.{EachLine, from_oldest}
use Rattle.afr_lines.specs.declared.answer.Told.{Told}
use Rattle.afr_lines.specs.declared.answer.Told.TheVariants.{Seen}
use Rattle.afr_lines.specs.declared.line.Line.{Line}
use Rattle.afr_lines.specs.declared.line.Line.TheVariants.{Ask}
use Rattle.afr_lines.specs.declared.request.Request.TheVariants.{Look, Mend}
use Rattle.afr_lines.specs.declared.request.Request.TheVariants as request
use Rattle.afr_model.specs.Honest.{Honest as IsHonestLog, IsHonest}
use Rattle.afr_model.specs.Tables.{all_names_shown, bytes_shown, carried, content_in, held_before, holds}
use Rattle.afr_object.specs.Repairs.{merged}
use Rattle.afr_object.specs.Tables.{copy_at, key_cmp, name_cmp}
use Rattle.afr_object.specs.declared.change.Repair.{Repair}
use Rattle.afr_object.specs.declared.change.Repair.TheVariants.{Copy, CutTo, PutAttrs, PutNames}
use Rattle.afr_object.specs.declared.entry.Entry.{Entry}
use Rattle.afr_object.specs.declared.entry.View.{View}
use Rattle.afr_object.specs.Object.{Object}
use Rattle.afr_plan.specs.declared.plan.Plan.{Plan}
use Rattle.afr_law.proofs.Model.Dirty.{seen_copy}
use Rattle.afr_law.proofs.Model.Discipline.{weakly_lawful}
use Rattle.afr_law.proofs.Model.Fits.{ends_low, exact_sums, fits_by}
use Rattle.afr_law_tables.proofs.Merged.{rising_merged}
use Rattle.afr_law.specs.Beginning.{start_of}
use Rattle.afr_law.proofs.Model.Short.{AllEndLow, KeysAbove, KeysRise, all_short, shown_rise}
use Rattle.afr_law_tables.specs.Codes.{kept_by}
use Rattle.afr_model_moves.specs.Discipline.{LawfulExactly, MayAskExactly, MayExactly, MovesExactly, present}
use Rattle.afr_model_moves.specs.Heal.{Gives, Goes, MayHeal}
use Rattle.afr_model_moves.specs.ByList.{IsExactlyLawful}
use Rattle.afr_law.proofs.Discipline.ByList.{exactly_lawful}
use Rattle.afr_model_moves.specs.Register.{Mends, Piece, rank}
use Rattle.afr_law.specs.Exactly.{IsLawfulExactly, name_bound}
use Rattle.afr_law.proofs.Heals.Mended.{mend_fits}
use Rattle.afr_law.proofs.Heals.Pieces.{ShortLooks, pieces_now}
use Rattle.afr_law.proofs.Heals.Conditions.{mend_test, mend_turn}
use Rattle.afr_law.proofs.Discipline.Covers.{piece_is}
use Rattle.afr_law.proofs.Discipline.Inner.{turn_in, turn_low}
use Rattle.afr_law.specs.ModelFits.{ModelNextFits}
use Rattle.afr_law.specs.ModelLaw.{IsKnown, IsLawful, IsReadAt, NamesReads}
use Rattle.afr_law_tables.proofs.Names.{AreAbove, AreRising}
use Rattle.afr_model_moves.specs.Past.{Log}
use Rattle.afr_model_moves.proofs.ByPosition.{IsPast, none_at, past_whole}
use Rattle.afr_model_moves.specs.Positions.{by_position}
use Rattle.std.proofs.lemmas.Bool.{cases_lt}
use Rattle.afr_law_tables.specs.Carrying.{CanMend}

-- ---- lists in order
less_cmp : (n x : ℕ) → n < x → nat_cmp n x ≡ Less
less_cmp n x low = go (nat_cmp n x) (ranks n x)
  where
    go : (r : Ordering) → MatchOrdering r (n < x) (n ≡ x) (x < n) → r ≡ Less
    go Less h = refl
    go Equal h = absurd (omega (arith, low, h))
    go Greater h = absurd (omega (arith, low, h))

keys_in_order : (t : List (KeyId × ValueId)) → KeysRise t → IsStrictlySortedBy key_cmp (keys_of t)
unfolding IsStrictlySortedBy
keys_in_order [] h = tt
keys_in_order (x ∷ t) h = (above x.0 t h.0, keys_in_order t h.1)
  where
    above : (n : KeyId) (t : List (KeyId × ValueId)) → KeysAbove n.0 t → AllByRecursion (λ y. key_cmp n y ≡ Less) (keys_of t)
    above n [] k = tt
    above n (y ∷ t) k = (less_cmp n.0 y.0.0 k.0, above n t k.1)

names_in_order : (t : List (NameId × Entry)) → AreRising t → IsStrictlySortedBy name_cmp (keys_of t)
unfolding IsStrictlySortedBy
names_in_order [] h = tt
names_in_order (x ∷ t) h = (above x.0 t h.0, names_in_order t h.1)
  where
    above : (n : NameId) (t : List (NameId × Entry)) → AreAbove n.0 t → AllByRecursion (λ y. name_cmp n y ≡ Less) (keys_of t)
    above n [] k = tt
    above n (y ∷ t) k = (less_cmp n.0 y.0.0 k.0, above n t k.1)

-- ---- short looks
pub ends_each : (n : ℕ) (p : Plan) (log : List Line) → IsExactlyLawful n (start_of p (name_bound p)) log → AllEndLow log
ends_each n p [] lawful = tt
ends_each n p (line ∷ older) lawful = (λ q c e. ends_low n (start_of p (name_bound p)) older lawful.1 q c e, ends_each n p older lawful.1)

-- a look shows no more than the longest file
abbrev ShowsShort : Option Line → Type 0
ShowsShort (Some (Ask a b (Look g) (Seen view) took)) = view.len ≤ 1048576
ShowsShort _ = Unit {0}

module _ (p : Plan) (L : Log) where
  line_short : (line : Line) (older : List Line) → AllEndLow older → IsLawful p older → IsHonest p line older → ShowsShort (Some line)
  line_short (Ask a b (Look g) (Seen view) took) older low lawful said = (
      let w = seen_copy _ _ (copy_at g (holds p older b.0)) view took said in
      let short = ((all_short p older low lawful).0 b.0 g w.0 w.1).0 in
      let same : view.len ≡ length (w.0).content = ap (λ (v : View). v.len) w.2 in
      omega (arith, same, short)
      )
  line_short (Ask a b r told took) older low lawful said = tt
  line_short line older low lawful said = tt

  short_below : (older : List Line) → IsPast L older → AllEndLow older → IsLawful p older → IsHonestLog p older → (t : ℕ) → t < length older → ShowsShort (L t)
  short_below [] h low lawful honest t under = absurd (omega (arith, under))
  short_below (line ∷ older) h low lawful honest t under = elim (cases_lt t (length older)) [
    | inl early ↦ short_below older h.1 low.1 lawful.1 honest.1 t early
    | inr late ↦ subst (λ (k : ℕ). ShowsShort (L k)) (omega (arith, late, under)) (subst ShowsShort (sym h.0) (line_short line older low.1 lawful.1 honest.0))
  ]

pub short_looks : (p : Plan) (log : List Line) → AllEndLow log → IsLawful p log → IsHonestLog p log → ShortLooks (by_position log)
short_looks p log low lawful honest t a x g view took is = subst ShowsShort is (at t)
  where
    at : (t : ℕ) → ShowsShort (by_position log t)
    at t = elim (cases_lt t (length log)) [
      | inl under ↦ short_below p (by_position log) log (past_whole log) low lawful honest t under
      | inr high ↦ subst ShowsShort (sym (none_at log t high)) tt
    ]

-- ---- one repair
module _ (p : Plan) (log : List Line) (low : AllEndLow log) (lawful : IsLawful p log) where
  shown_span : (g : Gfid) (at span read : ℕ) → IsReadAt log (request.ReadBytes g at span) read → length (bytes_shown (held_before p log) read (from_oldest read log)) ≤ span
  shown_span g at span read w = subst (λ (line : Option Line). length (bytes_shown (held_before p log) read line) ≤ span) (sym w.line) within
    where
      content : List ℕ
      content = content_in (copy_at g (held_before p log read w.brick.0))

      within : length (take span (drop at content)) ≤ span
      within = omega (arith, length-take span (drop at content))

  in_order : (repair : Repair) → NamesReads repair log → IsInOrder (carried (held_before p log) log repair)
  in_order (CutTo g len) known = tt
  in_order (Copy g at span read) known = tt
  in_order (PutAttrs g read) known = keys_in_order _ (shown_rise p log (held_before p log) (all_short p log low lawful).1 g read known)
  in_order (PutNames g reads) known = (let shown = all_names_shown (held_before p log) log reads in names_in_order (merged shown) (rising_merged shown))

  has_room : (b : ℕ) (repair : Repair) → NamesReads repair log → ((g : Gfid) (at span read : ℕ) → repair ≡ Copy g at span read → at + span ≤ 1048576) → CanRepair repair (carried (held_before p log) log repair) (holds p log b)
  has_room b (CutTo g len) known room = tt
  has_room b (Copy g at span read) known room = go (copy_at g (holds p log b))
    where
      go : (o : Option Object) → IfSome o (λ _. (at + span ≤ 1048576) × (length (bytes_shown (held_before p log) read (from_oldest read log)) ≤ span))
      go None = tt
      go (Some o) = (room g at span read refl, shown_span g at span read known)
  has_room b (PutAttrs g read) known room = tt
  has_room b (PutNames g reads) known room = tt

-- where a heal may mend with a piece, the piece ends within the longest file
piece_room : (n : ℕ) (keeps : ℕ → Kind → Bool) (L : Log) → MovesExactly n keeps L → ShortLooks L → (t a b : ℕ) (g : Gfid) (at span read : ℕ) → MayHeal n keeps (present n keeps L t a) b (Mend (Copy g at span read)) → at + span ≤ 1048576
piece_room n keeps L moves looks t a b g at span read m =
    let r = present n keeps L t a in
    let h = pieces_now n keeps L moves looks t a m.inside m.whole in
    let f = mend_fits n keeps r m.source (Copy g at span read) (mend_test n keeps r m.source b (Copy g at span read) m.allowed) tt in
    let turn = mend_turn n keeps r m.source b (Copy g at span read) m.allowed in
    let low : rank r.step ≤ 10 = turn_low n keeps r m.source Mends b turn in
    let part : r.part ≡ Piece = piece_is keeps r m.source b r.law.kind r.part f.1 f.2 (turn_in n keeps r m.source Mends b turn) in
    let room = h.room part (omega (arith, low)) in
    omega (arith, f.3, f.4, room)

-- ---- in the words of the model
pub next_fits : ModelNextFits
next_fits p log line five short honest lawful said next =
    (fits_by p log short lawful line (λ a b repair told is. mends a b repair told is) fits.0, fits.0)
  where
    whole : IsLawfulExactly p (line ∷ log)
    whole = (next, lawful)

    told_all : IsHonestLog p (line ∷ log)
    told_all = (said, honest)

    fits : EachLine (FitsSums p) (line ∷ log)
    fits = (exact_sums p (line ∷ log) five (omega (arith, short)) told_all whole).0

    weak : IsLawful p (line ∷ log)
    weak = weakly_lawful p (line ∷ log) five (omega (arith, short)) told_all whole

    low : AllEndLow (line ∷ log)
    low = ends_each p.shape.n p (line ∷ log) whole

    exactly : LawfulExactly p.shape.n (start_of p (name_bound p)) (by_position (line ∷ log))
    exactly = exactly_lawful p.shape.n (start_of p (name_bound p)) (line ∷ log) whole

    mends : (a : ActorId) (b : BrickId) (repair : Repair) (told : Told) → line ≡ Ask a b (Mend repair) told true → CanMend p log b.0 repair
    mends a b repair told is = (has_room p log low.1 weak.1 b.0 repair known room, in_order p log low.1 weak.1 repair known)
      where
        known : NamesReads repair log
        known = subst (λ (l : Line). IsKnown p l log) is weak.0.1

        here : Some line ≡ Some (Ask a b (Mend repair) told true)
        here = ap (λ (l : Line). Some l) is

        may : MayExactly p.shape.n (kept_by p) (present p.shape.n (kept_by p) (by_position (line ∷ log)) (length log)) (Some (Ask a b (Mend repair) told true))
        may = subst (MayExactly p.shape.n (kept_by p) (present p.shape.n (kept_by p) (by_position (line ∷ log)) (length log))) ((past_whole (line ∷ log)).0 ∙ here) (exactly.moves (length log))

        room : (g : Gfid) (at span read : ℕ) → repair ≡ Copy g at span read → at + span ≤ 1048576
        room g at span read e = go (subst (λ (x : Repair). MayAskExactly p.shape.n (kept_by p) (present p.shape.n (kept_by p) (by_position (line ∷ log)) (length log) a.0) b.0 (Mend x)) e may.1)
          where
            go : MayAskExactly p.shape.n (kept_by p) (present p.shape.n (kept_by p) (by_position (line ∷ log)) (length log) a.0) b.0 (Mend (Copy g at span read)) → at + span ≤ 1048576
            go (inl k) = absurd k.1
            go (inr (Goes m)) = piece_room p.shape.n (kept_by p) (by_position (line ∷ log)) exactly.moves (short_looks p (line ∷ log) low weak told_all) (length log) a.0 b.0 g at span read m
            go (inr (Gives inside broken k)) = absurd k
