-- The marks by positions are the sums of the list of lines, and the numbers of the copies where no Settle line takes back more than there is.
use Rattle.std.proofs.Common.{◌≡◌, ℕ, ◌+◌, ◌-◌, ◌<◌, ◌≤◌, Bool, true, false, ◌&&◌, not, refl, ◌∙◌, ap, arith, List, [], ◌∷◌, length, Option, None, Some, ◌==◌, if◌then◌else◌}
use Rattle.std.specs.Prelude.{slice_index, is_some}
use Rattle.afr_base.specs.Bricks.{member}
use Rattle.afr_base.specs.Marks.{marks_of, dirtied, closed_op, taken_back}
use Rattle.afr_base.specs.declared.ids.Gfid.{Gfid}
use Rattle.afr_base.specs.declared.ids.Kind.{Kind}
use Rattle.afr_base.specs.declared.ids.What.{What}
use Rattle.afr_base.specs.declared.ids.What.TheVariants.{File, Dir}
use Rattle.afr_object.specs.Repairs.{mended}
use Rattle.afr_object.specs.Tables.{copy_at}
use Rattle.afr_object.specs.Object.{Object}
use Rattle.afr_lines.specs.Log.{change_at}
use Rattle.afr_lines.specs.declared.line.Line.{Line}
use Rattle.afr_lines.specs.declared.line.Line.TheVariants.{Ask}
use Rattle.afr_lines.specs.declared.request.Request.TheVariants.{Pre, Apply, Mend, Post, Settle}
use Rattle.afr_plan.specs.declared.plan.Plan.{Plan}
use Rattle.afr_model.specs.Tables.{holds, held_before, carried, effect, keeps_bytes}
use Rattle.afr_base.specs.Kinds.{same_kind}
use Rattle.afr_model.specs.Sums.{has_object, sum_over, blames, settles_pending, pending_of}
use Rattle.afr_law_tables.specs.SumLaws.{now_at, counts, numbers_asked, numbers_same, numbers_effect, numbers_mended, pre_pending, post_pending, settle_pending, same_pending, five_now, at_first}
use Rattle.afr_model_moves.specs.Cells.{what_code}
use Rattle.afr_law_tables.specs.Codes.{kind_code, kept_by}
use Rattle.afr_model_moves.specs.Past.{Log, named, taken, posts, settled, pending}
use Rattle.afr_model_moves.specs.Past as past
use Rattle.afr_model_moves.proofs.ByPosition.{IsPast}
use Rattle.afr_law.proofs.Model.Tables.{kind_is}
use Rattle.afr_law.proofs.Model.SoundLog.{LawfulBelow}
use Rattle.afr_law.specs.Beginning.{start_of}

-- a kind is no 0 exactly where the brick has the object
there_is : (o : Option Object) → not (kind_code o == 0) ≡ is_some o
there_is None = refl
there_is (Some o) = go o.what
  where
    go : (w : What) → not (what_code w == 0) ≡ true
    go File = refl
    go Dir = refl

pub holds_is : (p : Plan) (n : ℕ) (L : Log) (b : ℕ) (older : List Line) → IsPast L older → LawfulBelow p n older → (g : ℕ) → past.holds (start_of p n) L (length older) b g ≡ has_object p older (record { 0 = g }) b
holds_is p n L b older h lawful g = ap (λ (k : ℕ). not (k == 0)) (kind_is p n L b older h lawful g) ∙ there_is (copy_at (record { 0 = g }) (holds p older b))

-- one where a test holds
abbrev one_if : Bool → ℕ
one_if b = if b then 1 else 0

pub no_post : (b : Bool) (n m : ℕ) → (if b && false then n else m) ≡ m
no_post true n m = refl
no_post false n m = refl

pub no_settle : (b : Bool) (n : ℕ) → (if b then n else n) ≡ n
no_settle true n = refl
no_settle false n = refl

module _ (p : Plan) (n : ℕ) (L : Log) (x c : ℕ) (g : Gfid) (kind : Kind) where
  post_line : (line : Line) (older : List Line) → one_if (has_object p older g x && named x c g.0 kind (Some line)) ≡ blames p x c g kind line older
  post_line (Ask a y (Post q h k missed) told took) older = go (has_object p older g x) (y.0 == x) took (h.0 == g.0) (same_kind k kind) (member missed c)
    where
      go : (there here took obj kin hit : Bool) → one_if (there && (here && took && obj && kin && hit)) ≡ (if took && here && obj && kin && there then one_if hit else 0)
      go true true true true true true = refl
      go true true true true true false = refl
      go true true true true false hit = refl
      go true true true false kin hit = refl
      go true true false obj kin hit = refl
      go true false true obj kin hit = refl
      go true false false obj kin hit = refl
      go false true true true true hit = refl
      go false true true true false hit = refl
      go false true true false kin hit = refl
      go false true false obj kin hit = refl
      go false false true obj kin hit = refl
      go false false false obj kin hit = refl
  post_line (Ask a y r told took) older = no_post (has_object p older g x) _ _
  post_line line older = no_post (has_object p older g x) _ _

  pub posts_is : (older : List Line) → IsPast L older → LawfulBelow p n older → posts (start_of p n) L (length older) x c g.0 kind ≡ sum_over (blames p x c g kind) older
  unfolding posts
  posts_is [] h lawful = refl
  posts_is (line ∷ older) h lawful =
      (λ i. one_if (holds_is p n L x older h.1 lawful.1 g.0 i && named x c g.0 kind (h.0 i)) + posts_is older h.1 lawful.1 i)
      ∙ ap (λ (k : ℕ). k + sum_over (blames p x c g kind) older) (post_line line older)

  settle_line : (line : Line) (older : List Line) → (if has_object p older g x then taken x c g.0 kind (Some line) else 0) ≡ settles_pending p x c g kind line older
  settle_line (Ask a y (Settle h k less) told took) older = go (has_object p older g x) (y.0 == x) took (h.0 == g.0) (same_kind k kind) (slice_index less.pending c)
    where
      go : (there here took obj kin : Bool) (n : ℕ) → (if there then (if here && took && obj && kin then n else 0) else 0) ≡ (if took && here && obj && kin && there then n else 0)
      go true true true true true n = refl
      go true true true true false n = refl
      go true true true false kin n = refl
      go true true false obj kin n = refl
      go true false true obj kin n = refl
      go true false false obj kin n = refl
      go false true true true true n = refl
      go false true true true false n = refl
      go false true true false kin n = refl
      go false true false obj kin n = refl
      go false false true obj kin n = refl
      go false false false obj kin n = refl
  settle_line (Ask a y r told took) older = no_settle (has_object p older g x) _
  settle_line line older = no_settle (has_object p older g x) _

  pub settled_is : (older : List Line) → IsPast L older → LawfulBelow p n older → settled (start_of p n) L (length older) x c g.0 kind ≡ sum_over (settles_pending p x c g kind) older
  unfolding settled
  settled_is [] h lawful = refl
  settled_is (line ∷ older) h lawful =
      (λ i. (if holds_is p n L x older h.1 lawful.1 g.0 i then taken x c g.0 kind (h.0 i) else 0) + settled_is older h.1 lawful.1 i)
      ∙ ap (λ (k : ℕ). k + sum_over (settles_pending p x c g kind) older) (settle_line line older)

  -- what a brick holds against another is the sum of the list of lines
  pub pending_is : (older : List Line) → IsPast L older → LawfulBelow p n older → pending (start_of p n) L (length older) x c g.0 kind ≡ pending_of p older x c g kind
  pending_is older h lawful = λ i. posts_is older h lawful i - settled_is older h lawful i

-- a Settle line that counts takes back no more than the copy holds against brick c
abbrev pub TakesWithin : Plan → ℕ → ℕ → Gfid → Kind → Line → List Line → Type 0
TakesWithin p x c g kind (Ask a y (Settle h k less) told took) older = counts p x g kind y.0 h k took older ≡ true → slice_index less.pending c ≤ slice_index (now_at p older x g kind).pending c
TakesWithin p x c g kind line older = Unit {0}

-- no line takes back more than there is, for a brick that keeps such cells
abbrev pub TakeWithin : Plan → List Line → Type 0
TakeWithin p [] = Unit {0}
TakeWithin p (line ∷ older) = ((x c : ℕ) (g : Gfid) (kind : Kind) → kept_by p c kind ≡ true → TakesWithin p x c g kind line older) × TakeWithin p older

module _ (p : Plan) (x c : ℕ) (g : Gfid) (kind : Kind) (small : c < 5) (kept : kept_by p c kind ≡ true) where
  line_adds : (line : Line) (older : List Line) → TakesWithin p x c g kind line older
      → slice_index (now_at p (line ∷ older) x g kind).pending c + settles_pending p x c g kind line older ≡ slice_index (now_at p older x g kind).pending c + blames p x c g kind line older
  line_adds (Ask a y (Pre h k) told took) older within = pre_pending (counts p x g kind y.0 h k took older) c _ _ (numbers_asked p x g kind y.0 h k took older dirtied)
  line_adds (Ask a y (Post q h k missed) told took) older within =
      post_pending (counts p x g kind y.0 h k took older) c missed _ _ (numbers_asked p x g kind y.0 h k took older (closed_op missed)) (omega (arith, small, five_now p older x g kind))
  line_adds (Ask a y (Settle h k less) told took) older within =
      settle_pending (counts p x g kind y.0 h k took older) c less _ _ (numbers_asked p x g kind y.0 h k took older (taken_back less)) within
  line_adds (Ask a y (Apply q) told took) older within =
      same_pending c _ _ (numbers_same kind g took (y.0 == x) (effect (keeps_bytes p x) (change_at q older) (holds p older x)) (holds p older x) (numbers_effect kind g (keeps_bytes p x) (change_at q older) (holds p older x)))
  line_adds (Ask a y (Mend repair) told took) older within =
      let new = mended (keeps_bytes p x) repair (carried (held_before p older) older repair) (holds p older x) in
      same_pending c _ _ (numbers_same kind g took (y.0 == x) new (holds p older x) (numbers_mended kind g (keeps_bytes p x) repair (carried (held_before p older) older repair) (holds p older x)))
  line_adds (Ask a y r told took) older within = same_pending c _ _ (numbers_same kind g took (y.0 == x) (holds p older x) (holds p older x) refl)
  line_adds line older within = let old = now_at p older x g kind in same_pending c old old refl

  pub adds_up : (log : List Line) → TakeWithin p log → slice_index (now_at p log x g kind).pending c + sum_over (settles_pending p x c g kind) log ≡ sum_over (blames p x c g kind) log
  adds_up [] within = let first = at_first p x g kind in omega (arith, first.1 c small)
  adds_up (line ∷ older) within = omega (arith, line_adds line older (within.0 x c g kind kept), adds_up older within.1)

  -- what a copy holds against a brick is the sum
  pub now_pending : (log : List Line) → TakeWithin p log → slice_index (now_at p log x g kind).pending c ≡ pending_of p log x c g kind
  now_pending log within = omega (arith, adds_up log within)

  pub copy_pending : (log : List Line) → TakeWithin p log → (o : Object) → copy_at g (holds p log x) ≡ Some o → slice_index (marks_of kind o.marks).pending c ≡ pending_of p log x c g kind
  copy_pending log within o e = rw e at (now_pending log within)
