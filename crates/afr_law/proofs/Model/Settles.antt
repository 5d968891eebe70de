-- A Settle line of an honest and lawful log takes back no more than there is; so the numbers of copies are the sums of lines.
use Rattle.std.proofs.Common.{◌≡◌, ℕ, suc, zero, ◌<◌, ◌≤◌, true, false, ◌||◌, inl, inr, refl, sym, ◌∙◌, ap, subst, arith, List, [], ◌∷◌, length, Option, None, Some, ◌==◌, if◌then◌else◌, true≢false}
use Rattle.std.specs.Prelude.{slice_index}
use Rattle.afr_base.specs.declared.ids.Gfid.{Gfid}
use Rattle.afr_base.specs.declared.ids.Kind.{Kind}
use Rattle.afr_base.specs.declared.marks.Marks.{Marks}
use Rattle.afr_lines.specs.declared.fault.Fault.{Fault}
use Rattle.afr_lines.specs.declared.answer.Told.{Told}
use Rattle.afr_lines.specs.declared.line.Line.{Line}
use Rattle.afr_lines.specs.declared.line.Line.TheVariants.{Ask, Begin, HealBegin, End, HealEnd, Event}
use Rattle.afr_lines.specs.declared.request.Request.TheVariants.{Settle}
use Rattle.afr_plan.specs.declared.plan.Plan.{Plan}
use Rattle.afr_model.specs.Honest.{Honest as IsHonestLog, IsHonest, fault_in}
use Rattle.afr_model.specs.Sums.{has_object}
use Rattle.afr_base.specs.Kinds.{same_kind}
use Rattle.afr_law_tables.specs.SumLaws.{all_true}
use Rattle.afr_law.proofs.Safety.Acts.{may_ask}
use Rattle.afr_law.proofs.Safety.CellLemmas.{posts_rise, shows_at}
use Rattle.afr_law_tables.specs.Codes.{kept_by, kind_code, value_code}
use Rattle.afr_law.proofs.Heals.Looks.{settle_works}
use Rattle.afr_law.proofs.Heals.Marks.{ready}
use Rattle.afr_law.proofs.Heals.EachLine.{viewings}
use Rattle.afr_model_moves.specs.Honest.{asked, HonestLine, Honest, KnownMake, Shows}
use Rattle.afr_law.specs.Law.{MayNext}
use Rattle.afr_model_moves.specs.Rules.{May, Lawful, opened, present}
use Rattle.afr_model_moves.specs.Lines.{ask_by, settle_on}
use Rattle.afr_model_moves.specs.Past.{Beginning, Log, before, joined, opening, pending, posts, settled}
use Rattle.afr_model_moves.specs.Positions.{by_position}
use Rattle.afr_model_moves.proofs.ByPosition.{IsPast, past_whole, before_past, none_at}
use Rattle.afr_law.proofs.Safety.Steps.{may_here}
use Rattle.afr_law.proofs.Model.Honest.{honest_ask, small_of}
use Rattle.afr_law.specs.Beginning.{start_of}
use Rattle.afr_law.proofs.Model.SoundLog.{LawfulBelow}
use Rattle.afr_law.proofs.Model.Tables.{all_same}
use Rattle.afr_law_tables.proofs.Values.{code_of}
use Rattle.afr_model_moves.specs.Cells.{Entry, entry_code}
use Rattle.afr_object.specs.Tables.{copy_at}
use Rattle.afr_object.specs.declared.change.Change.{Change}
use Rattle.afr_object.specs.declared.change.Change.TheVariants.{Write, Cut, SetAttr, Make, Remove}
use Rattle.afr_object.specs.declared.entry.Entry.{Entry as NameEntry}
use Rattle.afr_object.specs.Object.{Object}
use Rattle.afr_model.specs.Cells.{IsEntry}
use Rattle.afr_model.specs.Tables.{entry_in, held_before}
use Rattle.afr_law.proofs.Model.Sums.{TakesWithin, TakeWithin, now_pending, pending_is}
use Rattle.afr_law.specs.ModelLaw.{IsLawfulLine, MakesKnown}
use Rattle.std.proofs.lemmas.Bool.{cases_lt, eqb-true}
use Rattle.afr_model_moves.proofs.Tests.{same_kind_yes}
use Rattle.afr_base.specs.SetLemmas.{below_all}

-- ---- the marks at a Settle line
pub posts_later : (files : Beginning) (log : Log) (g : ℕ) (kind : Kind) (x c l t : ℕ) → l ≤ t → posts files log l x c g kind ≤ posts files log t x c g kind
posts_later files log g kind x c l zero low = (let same : l ≡ 0 = omega (arith, low) in subst (λ (k : ℕ). posts files log k x c g kind ≤ posts files log 0 x c g kind) (sym same) (omega arith))
posts_later files log g kind x c l (suc t) low = elim (cases_lt t l) [
  | inl late ↦ (let same : l ≡ suc t = omega (arith, late, low) in subst (λ (k : ℕ). posts files log k x c g kind ≤ posts files log (suc t) x c g kind) (sym same) (omega arith))
  | inr early ↦ omega (arith, posts_later files log g kind x c l t early, posts_rise files log g kind t x c)
]

-- what a Settle line takes back for a brick is there at that moment
settle_within : (n : ℕ) (files : Beginning) (faults : ℕ → ℕ → Option Fault) (log : Log) → Honest files faults log → Lawful n files.keeps log
    → (t a x g : ℕ) (kind : Kind) (less : Marks) (told : Told) → log t ≡ Some (ask_by a x (settle_on g kind less) told true)
    → (c : ℕ) → files.keeps c kind ≡ true → slice_index less.pending c ≤ pending files log t x c g kind
settle_within n files faults log honest lawful t a x g kind less told is c kept =
    let may = may_ask n files.keeps files faults log honest lawful t a x (settle_on g kind less) told true is in
    elim (may.exact c) [
      | inl nothing ↦ omega (arith, nothing)
      | inr full ↦ (
          let r = present n log t a in
          let work = settle_works n files.keeps files faults log honest lawful t a x g kind less told is in
          let v = (ready n files.keeps files faults log honest lawful t a (viewings n files.keeps files faults log honest lawful t a)).viewing in
          let f = v.firsts x may.view may.seen in
          let l = f.look.l in
          let shows : Shows files log l x r.object may.view = shows_at files log l a x r.object may.view (joined log l a x || opening log l a x) (faults x (suc (asked log l x))) (subst (HonestLine files faults log l) f.look.is (honest l)) in
          let seen = shows.marks kind c kept in
          let same : settled files log t x c r.object kind ≡ settled files log l x c r.object kind = subst (λ (k : Kind). settled files log t x c r.object k ≡ settled files log l x c r.object k) (sym may.kind_same) (f.same may.once may.healing work.2.live c) in
          let rise = posts_later files log r.object kind x c l t (omega (arith, f.past)) in
          let here : slice_index less.pending c ≤ pending files log t x c r.object kind = omega (arith, full.0, seen, same, rise) in
          subst (λ (o : ℕ). slice_index less.pending c ≤ pending files log t x c o kind) (sym may.object_same) here
          )
    ]

-- ---- honest and lawful by positions
-- what a Make makes is known by positions
pub make_known : (p : Plan) (n : ℕ) (L : Log) (older : List Line) → IsPast L older → LawfulBelow p n older → (c : Change) → MakesKnown p c older → KnownMake (start_of p n) L (length older) c
make_known p n L older h lawful (Make dir name g what) (inl w) = inl (w.0, ap kind_code w.1)
make_known p n L older h lawful (Make dir name g what) (inr w) = inr (record {
  r = w.read;
  a = 0;
  b = w.brick;
  dir = w.dir.0;
  name = w.name.0;
  past = w.past;
  same = ((all_same p n L older h lawful).1 w.read w.past).codes w.brick (Entry w.dir.0 w.name.0) refl (λ k. absurd (cc k)) ∙ there (copy_at w.dir (held_before p older w.read w.brick)) w.entry;
})
  where
    there : (o : Option Object) → entry_in w.name o ≡ Some (record { gfid = g; what = what }) → code_of (Entry w.dir.0 w.name.0) o ≡ entry_code g.0 what
    there None e = absurd (cc e)
    there (Some o) e = ap (λ (x : Option NameEntry). value_code (IsEntry x)) e
make_known p n L older h lawful (Write g at bytes) w = tt
make_known p n L older h lawful (Cut g len) w = tt
make_known p n L older h lawful (SetAttr g key value) w = tt
make_known p n L older h lawful (Remove dir name what) w = tt

module _ (p : Plan) (n : ℕ) (L : Log) (five : p.shape.n ≤ 5) where
  same_past : (older : List Line) → IsPast L older → by_position older ≡ before L (length older)
  same_past older h = λ i q. sym (before_past L older h q) i

  pub lawful_at : (older : List Line) → IsPast L older → LawfulBelow p n older → (t : ℕ) → t < length older → May p.shape.n (kept_by p) L t (opened L t) (present p.shape.n L t) (L t)
  lawful_at [] h lawful t low = absurd (omega (arith, low))
  lawful_at (line ∷ older) h lawful t low = elim (cases_lt t (length older)) [
    | inl early ↦ lawful_at older h.1 lawful.1 t early
    | inr late ↦ subst (λ (k : ℕ). May p.shape.n (kept_by p) L k (opened L k) (present p.shape.n L k) (L k)) (omega (arith, late, low)) newest
  ]
    where
      newest : May p.shape.n (kept_by p) L (length older) (opened L (length older)) (present p.shape.n L (length older)) (L (length older))
      newest = may_here p.shape.n (kept_by p) L (length older) line (subst (λ (past : Log). MayNext p.shape.n (kept_by p) past (length older) line) (same_past older h.1) lawful.0.0.0) h.0

  honest_newest : (older : List Line) → IsPast L older → LawfulBelow p n older → TakeWithin p older → (line : Line) → L (length older) ≡ Some line → IsLawfulLine p line older → IsHonest p line older → HonestLine (start_of p n) (fault_in p.faults) L (length older) (Some line)
  honest_newest older h lawful within (Ask a b r told took) is here said = honest_ask p n L a b r told took older (below_all p.shape.n b.0 five here.0.0) is h lawful within said
  honest_newest older h lawful within (Begin a c) is here said = make_known p n L older h lawful c here.1.1
  honest_newest older h lawful within (HealBegin a g kind) is here said = tt
  honest_newest older h lawful within (End a reply) is here said = tt
  honest_newest older h lawful within (HealEnd a g kind reply) is here said = tt
  honest_newest older h lawful within (Event e) is here said = tt

-- what the lines before the newest take back is there
abbrev pub TakeWithinBefore : Plan → List Line → Type 0
TakeWithinBefore p [] = Unit {0}
TakeWithinBefore p (line ∷ older) = TakeWithin p older

pub within_before : (p : Plan) (log : List Line) → TakeWithin p log → TakeWithinBefore p log
within_before p [] w = tt
within_before p (line ∷ older) w = w.1

module _ (p : Plan) (n : ℕ) (L : Log) (five : p.shape.n ≤ 5) where
  pub honest_at : (older : List Line) → IsPast L older → LawfulBelow p n older → TakeWithinBefore p older → IsHonestLog p older → (t : ℕ) → t < length older → HonestLine (start_of p n) (fault_in p.faults) L t (L t)
  honest_at [] h lawful within honest t low = absurd (omega (arith, low))
  honest_at (line ∷ older) h lawful within honest t low = elim (cases_lt t (length older)) [
    | inl early ↦ honest_at older h.1 lawful.1 (within_before p older within) honest.1 t early
    | inr late ↦ subst (λ (k : ℕ). HonestLine (start_of p n) (fault_in p.faults) L k (L k)) (omega (arith, late, low)) (subst (HonestLine (start_of p n) (fault_in p.faults) L (length older)) (sym h.0) (honest_newest p n L five older h.1 lawful.1 within line h.0 lawful.0.0 honest.0))
  ]

module _ (p : Plan) (n : ℕ) (five : p.shape.n ≤ 5) where
  -- the lines of the log by their positions, with nothing after them
  pub all_lawful : (log : List Line) → LawfulBelow p n log → Lawful p.shape.n (kept_by p) (by_position log)
  all_lawful log lawful t = elim (cases_lt t (length log)) [
    | inl low ↦ lawful_at p n (by_position log) five log (past_whole log) lawful t low
    | inr high ↦ subst (May p.shape.n (kept_by p) (by_position log) t (opened (by_position log) t) (present p.shape.n (by_position log) t)) (sym (none_at log t high)) tt
  ]

  pub all_honest : (log : List Line) → LawfulBelow p n log → IsHonestLog p log → TakeWithinBefore p log → Honest (start_of p n) (fault_in p.faults) (by_position log)
  all_honest log lawful honest within t = elim (cases_lt t (length log)) [
    | inl low ↦ honest_at p n (by_position log) five log (past_whole log) lawful within honest t low
    | inr high ↦ subst (HonestLine (start_of p n) (fault_in p.faults) (by_position log) t) (sym (none_at log t high)) tt
  ]

  -- one line more
  newest_within : (line : Line) (older : List Line) → LawfulBelow p n (line ∷ older) → IsHonestLog p (line ∷ older) → TakeWithin p older → (x c : ℕ) (g : Gfid) (kind : Kind) → kept_by p c kind ≡ true → TakesWithin p x c g kind line older
  newest_within (Ask a y (Settle h k less) told took) older lawful honest within x c g kind kept = λ counted. (
      let M = by_position (Ask a y (Settle h k less) told took ∷ older) in
      let past = past_whole (Ask a y (Settle h k less) told took ∷ older) in
      let w = all_true took (y.0 == x) (h.0 == g.0) (same_kind k kind) (has_object p older g x) counted in
      let is : M (length older) ≡ Some (ask_by a.0 x (settle_on g.0 kind less) told true) = past.0 ∙ (λ i. Some (ask_by a.0 (eqb-true y.0 x w.1 i) (settle_on (eqb-true h.0 g.0 w.2 i) (same_kind_yes k kind w.3 i) less) told (w.0 i))) in
      let low = settle_within p.shape.n (start_of p n) (fault_in p.faults) M (all_honest (Ask a y (Settle h k less) told took ∷ older) lawful honest within) (all_lawful (Ask a y (Settle h k less) told took ∷ older) lawful) (length older) a.0 x g.0 kind less told is c kept in
      omega (arith, low, pending_is p n M x c g kind older past.1 lawful.1, now_pending p x c g kind (small_of p c kind kept) kept older within)
      )
  newest_within (Ask a y r told took) older lawful honest within x c g kind kept = tt
  newest_within line older lawful honest within x c g kind kept = tt

  -- no Settle line takes back more than there is
  pub take_within : (log : List Line) → LawfulBelow p n log → IsHonestLog p log → TakeWithin p log
  take_within [] lawful honest = tt
  take_within (line ∷ older) lawful honest = (let before = take_within older lawful.1 honest.1 in (λ x c g kind kept. newest_within line older lawful honest before x c g kind kept, before))
