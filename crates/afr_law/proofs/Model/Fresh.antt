-- Reads of honest and lawful logs of the model are fresh where looks let them.
use Rattle.std.proofs.Common.{◌≡◌, ◌⊎◌, ℕ, ◌-◌, ◌*◌, ◌<◌, ◌≤◌, nat_le, Bool, true, false, ◌&&◌, refl, sym, ◌∙◌, subst, arith, inl, inr, List, [], ◌∷◌, ◌++◌, length, length-drop, ◌==◌, true≢false, if◌then◌else◌}
use Rattle.std.specs.Prelude.{nat_lt}
use Rattle.std.proofs.lemmas.Bool.Decides.{nat_tests}
use Rattle.afr_base.specs.Bricks.{member, and_left, and_right}
use Rattle.afr_base.specs.Majority.{count_below}
use Rattle.afr_base.specs.declared.ids.ActorId.{ActorId}
use Rattle.afr_base.specs.declared.ids.BrickId.{BrickId}
use Rattle.afr_base.specs.declared.ids.Gfid.{Gfid}
use Rattle.afr_base.specs.declared.ids.Kind.{Kind}
use Rattle.afr_base.specs.declared.ids.Kind.TheVariants.{Bytes, Attrs, Names}
use Rattle.afr_base.specs.declared.ids.NameId.{NameId}
use Rattle.afr_choice.specs.Looks.{view_at}
use Rattle.afr_base.specs.Keeping.{keeps}
use Rattle.afr_choice.specs.Verdict.{is_holder, shown_missed}
use Rattle.afr_choice.specs.declared.looked.Looked.{Looked}
use Rattle.afr_choice.specs.VerdictLemmas.{good_below, member_good, nobody_accuses}
use Rattle.afr_lines.specs.Log.{EachLine, before}
use Rattle.afr_lines.specs.Work.{Work, work}
use Rattle.afr_lines.specs.declared.answer.Told.{Told}
use Rattle.afr_lines.specs.declared.answer.Told.TheVariants.{Given}
use Rattle.afr_lines.specs.declared.line.Line.{Line}
use Rattle.afr_lines.specs.declared.line.Line.TheVariants.{Ask}
use Rattle.afr_lines.specs.declared.request.Request.{Request}
use Rattle.afr_lines.specs.declared.request.Request.TheVariants as request
use Rattle.afr_plan.specs.declared.command.Command.{Command}
use Rattle.afr_plan.specs.declared.command.Command.TheVariants as command
use Rattle.afr_plan.specs.declared.plan.Plan.{Plan}
use Rattle.afr_model.specs.Answered.{IsAbout, MayRead}
use Rattle.afr_model.specs.Attempts.{IsNoOlder}
use Rattle.afr_model.specs.Cells.{Cell, object_of_cell, kind_of_cell}
use Rattle.afr_model.specs.Cells as model
use Rattle.afr_model.specs.Honest.{Honest as IsHonestLog, fault_in}
use Rattle.afr_model.specs.Safe.{log_before, names_cell}
use Rattle.afr_model.specs.Parts.{Part, Walks, Makes, Removes, after_names, first_part, is_again, names_asked, part_at, second_part, the_make, the_removal, the_walk, upto_names}
use Rattle.afr_model.specs.Renamed.{IsOfPart}
use Rattle.afr_model.specs.Replied.{IsOf}
use Rattle.afr_model.specs.Showing.{looked_by}
use Rattle.afr_law.proofs.Model.Cells.{kind_cell, object_cell, below_length}
use Rattle.afr_law.proofs.Model.Discipline.{weakly_lawful}
use Rattle.afr_law.proofs.Model.Looks.{looked_clear}
use Rattle.afr_law.specs.Beginning.{start_of}
use Rattle.afr_law.proofs.Model.Settles.{all_honest, all_lawful, take_within, within_before}
use Rattle.afr_law.proofs.Model.SoundLog.{LawfulBelow, lawful_below, name_limit}
use Rattle.afr_model_moves.specs.Cells.{is_cell, object_of, kind_of}
use Rattle.afr_model_moves.specs.Cells as law_cell
use Rattle.afr_law_tables.specs.Codes.{cell_of, kept_by}
use Rattle.afr_law.proofs.Freshness.Fresh.{fresh_read}
use Rattle.afr_law.specs.FreshReads.{LooksLet, NoOlder}
use Rattle.afr_model_moves.specs.Honest.{Honest}
use Rattle.afr_model_moves.specs.Lines.{ask_by}
use Rattle.afr_law.specs.ModelFresh.{IsOneOfLines, IsLetBy, IsLetBySome, IsFreshSince, ModelReadsAreFresh, IsLetRead, IsFreshByLooks, ModelWorksReadFresh, ModelExactReadsFresh}
use Rattle.afr_law.specs.ModelLaw.{IsLawfulLine}
use Rattle.afr_model_moves.specs.Past.{Log}
use Rattle.afr_model_moves.specs.Positions.{by_position}
use Rattle.afr_model_moves.proofs.ByPosition.{IsPast, past_whole, past_at}
use Rattle.afr_law.proofs.Model.Early.{Early, early_begun, early_drop, far_no_older, no_older_is}
use Rattle.std.proofs.lemmas.Bool.{eqb-true}

-- ---- one read
module _ (p : Plan) (n : ℕ) (L : Log) (five : p.shape.n ≤ 5)
    (all : (r since a b : ℕ) (cell : law_cell.Cell) → LooksLet p.shape.n (kept_by p) L a since r (object_of cell) (kind_of cell) b → NoOlder (start_of p n) L r since b cell) where
  kept_is : (b : ℕ) (kind : Kind) → b < p.shape.n → keeps p.shape kind b ≡ true → kept_by p b kind ≡ true
  kept_is b kind low kept = (let small : nat_lt b 5 ≡ true = below b p.shape.n low five in rw small kept)
    where
      below : (b n : ℕ) → b < n → n ≤ 5 → nat_lt b 5 ≡ true
      below b n l f = grind (arith, nat_tests)

  most : (n m : ℕ) → nat_lt n m ≡ true → n < m
  most n m e = grind (arith, nat_tests)

  looks_let : (older : List Line) → IsPast L older → (a since m : ℕ) (g : Gfid) (kind : Kind) (b : ℕ) → b < p.shape.n → m ≤ since → IsLetBy p older a since g kind b → LooksLet p.shape.n (kept_by p) L a m (length older) g.0 kind b
  looks_let older h a since m g kind b low under w = record {
    below = low;
    copy = kept_is b kind low w.copy;
    among = member w.among;
    majority = most p.shape.n (2 * count_below p.shape.n (member w.among)) w.majority;
    looks = λ x small inside. (
        let k = w.looks x small inside in
        let stands : k.position < length older = below_length older k.position (ask_by a x (request.Look g) k.told k.took) k.line in
        record { l = k.position; told = k.told; took = k.took; is = past_at L older h k.position stands ∙ k.line; after = omega (arith, k.after, under); past = stands; clear = k.clear }
        );
  }

  module _ (older : List Line) (h : IsPast L older) (lawful : LawfulBelow p n older) where
    -- what is shown is no older than what was acknowledged in some first lines
    read_fresh : (early : List Line) → Early p n L (length older) early → (a since b : ℕ) → b < p.shape.n → length early ≤ since → (cell : Cell) → IsLetBy p older a since (object_of_cell cell) (kind_of_cell cell) b → IsNoOlder p older early b cell
    read_fresh early was a since b low under cell w = go (is_cell (cell_of cell)) refl
      where
        moved : LooksLet p.shape.n (kept_by p) L a (length early) (length older) (object_of (cell_of cell)) (kind_of (cell_of cell)) b
        moved = subst (λ (o : ℕ). LooksLet p.shape.n (kept_by p) L a (length early) (length older) o (kind_of (cell_of cell)) b) (sym (object_cell cell))
            (subst (λ (k : Kind). LooksLet p.shape.n (kept_by p) L a (length early) (length older) (object_of_cell cell).0 k b) (sym (kind_cell cell))
            (looks_let older h a since (length early) (object_of_cell cell) (kind_of_cell cell) b low under w))

        unreal : (cell : Cell) → is_cell (cell_of cell) ≡ false → IsNoOlder p older early b cell
        unreal (model.Byte g i) e = far_no_older p n L five older h lawful early was b g i e
        unreal (model.Attr g key) e = absurd (true≢false e)
        unreal (model.Name g name) e = absurd (true≢false e)

        go : (real : Bool) → is_cell (cell_of cell) ≡ real → IsNoOlder p older early b cell
        go true real = no_older_is p n L five older h lawful early was b cell real (kept_is b (kind_of_cell cell) low w.copy) (all (length older) (length early) a b (cell_of cell) moved)
        go false e = unreal cell e

    -- since a position
    short : (since : ℕ) → length (before since older) ≤ since
    short since = omega (arith, length-drop (length older - since) older)

    fresh_since : (line : Line) → IsLawfulLine p line older → IsFreshSince p line older
    fresh_since (Ask a b r Given took) here = λ since cell named w. read_fresh (before since older) (early_drop p n L (length older) (length older - since) older (h, lawful, omega arith)) a.0 since b.0 here.0.0 (short since) cell w
    fresh_since line here = tt

    -- since the work began
    let_by : (a b : ℕ) (g : Gfid) (kind : Kind) → IsLetBySome p b g kind (work a older) → IsLetBy p older a (length (log_before (work a older) older)) g kind b
    let_by a b g kind s = record {
      copy = and_right (is_holder looked b) (keeps p.shape kind b) (and_left (is_holder looked b && keeps p.shape kind b) _ (sym (member_good p.shape looked kind b (good_below p.shape looked kind b s.lets.good)) ∙ s.lets.good));
      among = looked.reached;
      majority = s.lets.answered;
      looks = λ x small inside. (
          let low : x < 5 = omega (arith, small, five) in
          let none : (member looked.reached x && shown_missed kind b (view_at x looked)) ≡ false = nobody_accuses p.shape looked kind b x s.lets.good low in
          looked_clear a x g kind b low older s.some s.are inside (rest (member looked.reached x) (shown_missed kind b (view_at x looked)) inside none)
          );
    }
      where
        looked : Looked
        looked = looked_by g s.some

        rest : (reached missed : Bool) → reached ≡ true → (reached && missed) ≡ false → missed ≡ false
        rest true missed e f = f
        rest false missed e f = absurd (true≢false (sym e))

    cell_fresh : (a b : ℕ) → b < p.shape.n → (cell : Cell) → IsLetBySome p b (object_of_cell cell) (kind_of_cell cell) (work a older) → IsNoOlder p older (log_before (work a older) older) b cell
    cell_fresh a b low cell w = read_fresh (log_before (work a older) older) (early_begun p n L (length older) a older (h, lawful, omega arith)) a (length (log_before (work a older) older)) b low (omega arith) cell (let_by a b (object_of_cell cell) (kind_of_cell cell) w)

    -- of the object that a test names
    of_same : (a b : ℕ) → b < p.shape.n → (g : Gfid) (cell : Cell) → (g.0 == (object_of_cell cell).0) ≡ true → IsLetBySome p b g (kind_of_cell cell) (work a older) → IsNoOlder p older (log_before (work a older) older) b cell
    of_same a b low g cell e w = cell_fresh a b low cell (subst (λ (o : Gfid). IsLetBySome p b o (kind_of_cell cell) (work a older)) (λ i. record { 0 = eqb-true g.0 (object_of_cell cell).0 e i }) w)

    fresh_by_looks : (line : Line) → IsLawfulLine p line older → IsFreshByLooks p line older
    fresh_by_looks (Ask a b (request.ReadBytes g at len) Given took) here = λ w client cell. by_cell cell w
      where
        by_cell : (cell : Cell) → IsLetBySome p b.0 g Bytes (work a.0 older) → names_cell (request.ReadBytes g at len) cell ≡ true → IsNoOlder p older (log_before (work a.0 older) older) b.0 cell
        by_cell (model.Byte o i) w named = of_same a.0 b.0 here.0.0 g (model.Byte o i) (and_left (g.0 == o.0) _ named) w
        by_cell (model.Attr o key) w named = absurd (cc named)
        by_cell (model.Name o name) w named = absurd (cc named)
    fresh_by_looks (Ask a b (request.ReadName g name) Given took) here = λ w client cell. by_cell cell w
      where
        by_cell : (cell : Cell) → IsLetBySome p b.0 g Names (work a.0 older) → names_cell (request.ReadName g name) cell ≡ true → IsNoOlder p older (log_before (work a.0 older) older) b.0 cell
        by_cell (model.Byte o i) w named = absurd (cc named)
        by_cell (model.Attr o key) w named = absurd (cc named)
        by_cell (model.Name o other) w named = of_same a.0 b.0 here.0.0 g (model.Name o other) (and_left (g.0 == o.0) _ named) w
    fresh_by_looks (Ask a b (request.List g) Given took) here = λ w client cell. by_cell cell w
      where
        by_cell : (cell : Cell) → IsLetBySome p b.0 g Names (work a.0 older) → names_cell (request.List g) cell ≡ true → IsNoOlder p older (log_before (work a.0 older) older) b.0 cell
        by_cell (model.Byte o i) w named = absurd (cc named)
        by_cell (model.Attr o key) w named = absurd (cc named)
        by_cell (model.Name o other) w named = of_same a.0 b.0 here.0.0 g (model.Name o other) named w
    fresh_by_looks (Ask a b (request.ReadAttr g key) Given took) here = λ w client cell. by_cell cell w
      where
        by_cell : (cell : Cell) → IsLetBySome p b.0 g Attrs (work a.0 older) → names_cell (request.ReadAttr g key) cell ≡ true → IsNoOlder p older (log_before (work a.0 older) older) b.0 cell
        by_cell (model.Byte o i) w named = absurd (cc named)
        by_cell (model.Attr o other) w named = of_same a.0 b.0 here.0.0 g (model.Attr o other) (and_left (g.0 == o.0) _ named) w
        by_cell (model.Name o name) w named = absurd (cc named)
    fresh_by_looks (Ask a b r Given took) here = λ w client cell named. absurd (cc named)
    fresh_by_looks line here = λ w. tt

  -- ---- every line
  each_since : (older : List Line) → IsPast L older → LawfulBelow p n older → EachLine (IsFreshSince p) older
  each_since [] h lawful = tt
  each_since (line ∷ older) h lawful = (fresh_since older h.1 lawful.1 line lawful.0.0, each_since older h.1 lawful.1)

  each_by_looks : (older : List Line) → IsPast L older → LawfulBelow p n older → EachLine (IsFreshByLooks p) older
  each_by_looks [] h lawful = tt
  each_by_looks (line ∷ older) h lawful = (fresh_by_looks older h.1 lawful.1 line lawful.0.0, each_by_looks older h.1 lawful.1)

-- ---- the whole log
module _ (p : Plan) (log : List Line) (five : p.shape.n ≤ 5) (honest : IsHonestLog p log) (n : ℕ) (below : LawfulBelow p n log) where
  all_told : Honest (start_of p n) (fault_in p.faults) (by_position log)
  all_told = all_honest p n five log below honest (within_before p log (take_within p n five log below honest))

  each_read : (r since a b : ℕ) (cell : law_cell.Cell) → LooksLet p.shape.n (kept_by p) (by_position log) a since r (object_of cell) (kind_of cell) b → NoOlder (start_of p n) (by_position log) r since b cell
  each_read r since a b cell w = fresh_read p.shape.n (start_of p n) (fault_in p.faults) (by_position log) all_told (all_lawful p n five log below) r since a b cell w

  log_since : EachLine (IsFreshSince p) log
  log_since = each_since p n (by_position log) five each_read log (past_whole log) below

  log_by_looks : EachLine (IsFreshByLooks p) log
  log_by_looks = each_by_looks p n (by_position log) five each_read log (past_whole log) below

-- the third law in the words of the model
pub model_fresh_since : ModelReadsAreFresh
model_fresh_since p log five honest lawful = log_since p log five honest (name_limit p log) (lawful_below p (name_limit p log) log (omega arith) lawful)

pub model_fresh_by_looks : ModelWorksReadFresh
model_fresh_by_looks p log five honest lawful = log_by_looks p log five honest (name_limit p log) (lawful_below p (name_limit p log) log (omega arith) lawful)

-- over the discipline in full
pub exact_fresh : ModelExactReadsFresh
exact_fresh p log five short honest lawful = (let weak = weakly_lawful p log five short honest lawful in (model_fresh_since p log five honest weak, model_fresh_by_looks p log five honest weak))

-- ---- for whoever asks
-- the parts of a work are of its lines
upto_is : (k : ℕ) (w : Work) (x : Line × List Line) → IsOneOfLines x (upto_names k w) → IsOneOfLines x w
upto_is k [] x it = it
upto_is k (y ∷ w) x it = go (nat_le k (names_asked w)) (upto_is k w x) it
  where
    go : (early : Bool) → (IsOneOfLines x (upto_names k w) → IsOneOfLines x w) → IsOneOfLines x (if early then upto_names k w else y ∷ w) → IsOneOfLines x (y ∷ w)
    go true before h = inr (before h)
    go false before h = h

after_is : (k : ℕ) (w : Work) (x : Line × List Line) → IsOneOfLines x (after_names k w) → IsOneOfLines x w
after_is k [] x it = it
after_is k (y ∷ w) x it = go (nat_le k (names_asked w)) (after_is k w x) it
  where
    go : (late : Bool) → (IsOneOfLines x (after_names k w) → IsOneOfLines x w) → IsOneOfLines x (if late then y ∷ after_names k w else []) → IsOneOfLines x (y ∷ w)
    go true before (inl h) = inl h
    go true before (inr h) = inr (before h)
    go false before h = absurd h

first_is : (w : Work) (x : Line × List Line) → IsOneOfLines x (first_part w) → IsOneOfLines x w
first_is [] x it = it
first_is (y ∷ w) x it = go (is_again y.0 w) (first_is w x) it
  where
    go : (again : Bool) → (IsOneOfLines x (first_part w) → IsOneOfLines x w) → IsOneOfLines x (if again then first_part w else y ∷ w) → IsOneOfLines x (y ∷ w)
    go true before h = inr (before h)
    go false before h = h

second_is : (w : Work) (x : Line × List Line) → IsOneOfLines x (second_part w) → IsOneOfLines x w
second_is [] x it = it
second_is (y ∷ w) x it = go (is_again y.0 w) (second_is w x) it
  where
    go : (again : Bool) → (IsOneOfLines x (second_part w) → IsOneOfLines x w) → IsOneOfLines x (if again then y ∷ second_part w else []) → IsOneOfLines x (y ∷ w)
    go true before (inl h) = inl h
    go true before (inr h) = inr (before h)
    go false before h = absurd h

either_is : (v u : Work) (x : Line × List Line) → IsOneOfLines x (v ++ u) → IsOneOfLines x v ⊎ IsOneOfLines x u
either_is [] u x it = inr it
either_is (y ∷ v) u x (inl same) = inl (inl same)
either_is (y ∷ v) u x (inr it) = elim (either_is v u x it) [
  | inl h ↦ inl (inr h)
  | inr h ↦ inr h
]

module _ (p : Plan) (a : ActorId) (b : BrickId) (r : Request) (told : Told) (took : Bool) (older : List Line) where
  -- a read that a command may make by some lines of its work is let by their last looks
  let_by_some : (c : Command) (some : Work) → ((x : Line × List Line) → IsOneOfLines x some → IsOneOfLines x (work a.0 older)) → IsAbout p c (Ask a b r told took) some → IsLetRead p (Ask a b r told took) older
  let_by_some c some are k = by r k
    where
      let_it : (g : Gfid) (kind : Kind) → MayRead p c g kind b.0 some → IsLetBySome p b.0 g kind (work a.0 older)
      let_it g kind m = record { some = some; are = are; lets = record { answered = m.answered; good = m.good } }

      by : (r : Request) → IsAbout p c (Ask a b r told took) some → IsLetRead p (Ask a b r told took) older
      by (request.ReadBytes g at len) k = let_it g Bytes k.0
      by (request.ReadName g name) k = let_it g Names k
      by (request.List g) k = let_it g Names k.0
      by (request.ReadAttr g key) k = let_it g Attrs k.0
      by r k = tt

  -- so is a read of a part of a rename
  let_by_part : (part : Part) (from to : List NameId) → IsOfPart part p from to (Ask a b r told took) (work a.0 older) → IsLetRead p (Ask a b r told took) older
  let_by_part Walks from to k = let_by_some (command.Stat from) (the_walk from (work a.0 older)) (upto_is (length from) (work a.0 older)) k
  let_by_part Makes from to k = let_by_some (command.Create to) (the_make from (work a.0 older)) (λ x it. first_is (work a.0 older) x (after_is (length from) (first_part (work a.0 older)) x it)) k.1
  let_by_part Removes from to k =
      let_by_some (command.Unlink from) (the_removal from (work a.0 older))
      (λ x it. elim (either_is (second_part (work a.0 older)) (upto_names (length from - 1) (work a.0 older)) x it) [
        | inl h ↦ second_is (work a.0 older) x h
        | inr h ↦ upto_is (length from - 1) (work a.0 older) x h
      ]) k.2

  -- so is a request that is about its actor's command
  pub let_of : (c : Command) → IsOf p c (Ask a b r told took) (work a.0 older) → IsLetRead p (Ask a b r told took) older
  let_of (command.Rename from to) k = let_by_part (part_at from (Ask a b r told took) (work a.0 older)) from to k
  let_of (command.Write path at bytes) k = let_by_some (command.Write path at bytes) (work a.0 older) (λ x it. it) k
  let_of (command.Cut path len) k = let_by_some (command.Cut path len) (work a.0 older) (λ x it. it) k
  let_of (command.Read path at len) k = let_by_some (command.Read path at len) (work a.0 older) (λ x it. it) k
  let_of (command.Create path) k = let_by_some (command.Create path) (work a.0 older) (λ x it. it) k
  let_of (command.Mkdir path) k = let_by_some (command.Mkdir path) (work a.0 older) (λ x it. it) k
  let_of (command.Unlink path) k = let_by_some (command.Unlink path) (work a.0 older) (λ x it. it) k
  let_of (command.Rmdir path) k = let_by_some (command.Rmdir path) (work a.0 older) (λ x it. it) k
  let_of (command.Ls path) k = let_by_some (command.Ls path) (work a.0 older) (λ x it. it) k
  let_of (command.Stat path) k = let_by_some (command.Stat path) (work a.0 older) (λ x it. it) k
  let_of (command.SetAttr path key value) k = let_by_some (command.SetAttr path key value) (work a.0 older) (λ x it. it) k
  let_of (command.GetAttr path key) k = let_by_some (command.GetAttr path key) (work a.0 older) (λ x it. it) k
