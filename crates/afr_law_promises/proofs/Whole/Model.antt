-- Whole copies in the words of the model.
use Rattle.std.proofs.Common.{◌≡◌, ℕ, ◌≤◌, ◌&&◌, ◌⊎◌, Bool, true, false, inl, inr, sym, refl, ◌∙◌, subst, arith, List, [], ◌∷◌, length, true≢false}
use Rattle.std.specs.Prelude.{Option, nat_lt}
use Rattle.std.specs.List.{list_any}
use Rattle.std.proofs.lemmas.Bool.Decides.{nat_tests}
use Rattle.afr_base.specs.Bricks.{member}
use Rattle.afr_base.specs.Keeping.{keeps}
use Rattle.afr_base.specs.declared.ids.Gfid.{Gfid}
use Rattle.afr_base.specs.declared.ids.Kind.{Kind}
use Rattle.afr_base.proofs.RisingLemmas.{has_first}
use Rattle.afr_lines.specs.Log.{EveryPrefix}
use Rattle.afr_lines.specs.declared.line.Line.{Line}
use Rattle.afr_plan.specs.declared.plan.Plan.{Plan}
use Rattle.afr_model.specs.Cells.{object_of_cell}
use Rattle.afr_model.specs.Honest.{fault_in}
use Rattle.afr_model.specs.Safe.{IsSafe, accuses, is_good_copy}
use Rattle.afr_model.specs.Sums.{pending_of}
use Rattle.afr_model_moves.specs.Discipline.{EndsWork, LawfulExactly}
use Rattle.afr_model_moves.specs.Honest.{Honest}
use Rattle.afr_model_moves.specs.Past.{Log, pending}
use Rattle.afr_model_moves.specs.Positions.{by_position}
use Rattle.afr_model_moves.proofs.ByPosition.{IsPast, past_at, past_whole}
use Rattle.afr_law.specs.Beginning.{start_of}
use Rattle.afr_law.specs.Exactly.{name_bound}
use Rattle.afr_law.proofs.Discipline.ByList.{exactly_lawful}
use Rattle.afr_law.proofs.Model.Discipline.{exact_safe, exactly_below}
use Rattle.afr_law.proofs.Model.Settles.{all_honest, take_within, within_before}
use Rattle.afr_law.proofs.Model.SoundLog.{LawfulBelow}
use Rattle.afr_law.proofs.Model.Sums.{holds_is, pending_is}
use Rattle.afr_law_promises.proofs.Sets.{in_listed, listed, listed_most, listed_parts, listed_within}
use Rattle.afr_law_promises.specs.Whole.Whole.{AreOverlapping, AreUnaccused, AreWhole, HasWholeCopy, ModelExactWhole}
use Rattle.afr_law_promises.proofs.Whole.Chosen.{OverlapAt, WholeAt, whole_at}
use Rattle.afr_law_quiet.proofs.Moves.Unmoved.{not_below}

-- nobody of these passes
none_of : (test : ℕ → Bool) (xs : List ℕ) → ((x : ℕ) → member xs x ≡ true → test x ≡ false) → list_any test xs ≡ false
none_of test [] all = refl
none_of test (x ∷ xs) all = rw (all x (has_first x xs)) (none_of test xs (λ y inside. all y (more x y xs inside)))
  where
    more : (x y : ℕ) (xs : List ℕ) → member xs y ≡ true → member (x ∷ xs) y ≡ true
    more x y xs inside = grind (arith, nat_tests)

module _ (p : Plan) (n : ℕ) (L : Log) (five : p.shape.n ≤ 5) (older : List Line) (h : IsPast L older) (lawful : LawfulBelow p n older) (g : Gfid) (kind : Kind) where
  -- an overlap by positions is one of the list
  overlap_is : OverlapAt L (length older) g.0 kind → AreOverlapping older g kind
  overlap_is w = record {
    look = w.l;
    other = w.k;
    close = w.m;
    after = w.after;
    before = w.before;
    actor = record { 0 = w.a };
    brick = record { 0 = w.x };
    view = w.view;
    looked = sym (past_at L older h w.l (omega (arith, w.after, w.before, w.past))) ∙ w.looked;
    attempt = w.q;
    closes = record { brick = record { 0 = w.b }; missed = w.missed; told = w.told; line = sym (past_at L older h w.m w.past) ∙ w.closes };
    one_work = λ u said low high is. w.one_work u low high (subst (λ (l : Option Line). EndsWork w.a l) (sym (past_at L older h u (omega (arith, high, w.past)) ∙ is)) refl);
    stranger = record { 0 = w.y };
    second = w.r;
    comes = record { brick = record { 0 = w.z }; missed = w.others; told = w.heard; line = sym (past_at L older h w.k (omega (arith, w.before, w.past))) ∙ w.comes };
    apart = w.apart;
  }

  whole_is : IsSafe p older → ((x c : ℕ) → pending (start_of p n) L (length older) x c g.0 kind ≡ 0) ⊎ WholeAt p.shape.n (start_of p n) L (length older) g.0 kind → AreUnaccused p older g kind ⊎ HasWholeCopy p older g kind
  whole_is safe (inl none) = inl (λ x c. not_below (pending_of p older x c g kind) (sym (pending_is p n L x c g kind older h lawful) ∙ none x c))
  whole_is safe (inr w) = inr (record {
    brick = w.s;
    bricks = bricks;
    within = listed_within p.shape.n w.among;
    majority = listed_most p.shape.n w.among five w.majority;
    good = good;
    current = λ cell object kind_is. safe bricks (listed_within p.shape.n w.among) (listed_most p.shape.n w.among five w.majority) w.s cell (subst (λ (k : Kind). is_good_copy p older bricks (object_of_cell cell) k w.s ≡ true) (sym kind_is) (subst (λ (o : Gfid). is_good_copy p older bricks o kind w.s ≡ true) (sym object) good));
  })
    where
      bricks : List ℕ
      bricks = listed p.shape.n w.among

      kept : (b : Bool) → (b && keeps p.shape kind w.s) ≡ true → keeps p.shape kind w.s ≡ true
      kept true e = e
      kept false e = absurd (true≢false (sym e))

      blameless : list_any (λ x. accuses p older g kind x w.s) bricks ≡ false
      blameless = none_of (λ x. accuses p older g kind x w.s) bricks (λ x inside. (
          let parts = listed_parts p.shape.n w.among x inside in
          not_below (pending_of p older x w.s g kind) (sym (pending_is p n L x w.s g kind older h lawful) ∙ w.unblamed x parts.0 parts.1)
          ))

      good : is_good_copy p older bricks g kind w.s ≡ true
      good = rw (in_listed p.shape.n w.among five w.s w.below ∙ w.inside, sym (holds_is p n L w.s older h lawful g.0) ∙ w.there, kept (nat_lt w.s 5) w.keeps, blameless) refl

-- ---- the whole log
module _ (p : Plan) (log : List Line) (five : p.shape.n ≤ 5) (honest : Honest (start_of p (name_bound p)) (fault_in p.faults) (by_position log)) (exactly : LawfulExactly p.shape.n (start_of p (name_bound p)) (by_position log)) where
  moment : (older : List Line) → IsPast (by_position log) older → LawfulBelow p (name_bound p) older → IsSafe p older → AreWhole p older
  moment older h lawful safe g kind alone =
      whole_is p (name_bound p) (by_position log) five older h lawful g kind safe
      (whole_at p.shape.n (start_of p (name_bound p)) (fault_in p.faults) (by_position log) honest exactly (length older) g.0 kind (λ w. alone (overlap_is p (name_bound p) (by_position log) five older h lawful g kind w)))

  each_moment : (older : List Line) → IsPast (by_position log) older → LawfulBelow p (name_bound p) older → EveryPrefix (IsSafe p) older → EveryPrefix (AreWhole p) older
  each_moment [] h lawful safe = moment [] h lawful safe
  each_moment (line ∷ older) h lawful safe = (moment (line ∷ older) h lawful safe.0, each_moment older h.1 lawful.1 safe.1)

pub exact_whole : ModelExactWhole
exact_whole p log five short honest lawful = each_moment p log five all_told (exactly_lawful p.shape.n (start_of p n) log lawful) log (past_whole log) below (exact_safe p log five short honest lawful)
  where
    n : ℕ
    n = name_bound p

    below : LawfulBelow p n log
    below = exactly_below p log five short honest lawful

    all_told : Honest (start_of p n) (fault_in p.faults) (by_position log)
    all_told = all_honest p n five log below honest (within_before p log (take_within p n five log below honest))
