-- A server of a log is the server of the log with a line that isn't addressed to it.
use Rattle.std.proofs.Common.{◌≡◌, ℕ, Bool, true, false, List, [], ◌∷◌, refl, sym, ap, ◌∙◌, if◌then◌else◌, ◌==◌, ◌&&◌}
use Rattle.afr_base.specs.Bricks.{member}
use Rattle.afr_base.specs.declared.ids.ActorId.{ActorId}
use Rattle.afr_base.specs.declared.ids.BrickId.{BrickId}
use Rattle.afr_lines.specs.Work.{is_of}
use Rattle.afr_lines.specs.declared.answer.Told.{Told}
use Rattle.afr_lines.specs.declared.answer.Told.TheVariants as as_told
use Rattle.afr_lines.specs.declared.line.Line.{Line}
use Rattle.afr_lines.specs.declared.line.Line.TheVariants.{Ask, Begin, HealBegin, End, HealEnd}
use Rattle.afr_lines.specs.declared.line.Line.TheVariants as line_of
use Rattle.afr_lines.specs.declared.request.Area.{Area}
use Rattle.afr_lines.specs.declared.request.Request.{Request}
use Rattle.afr_lines.specs.declared.request.Request.TheVariants.{Lock}
use Rattle.afr_server.proofs.RequestLemmas.{by_locks}
use Rattle.afr_model.specs.Honest.{one_more, requests_to}
use Rattle.afr_lines.specs.Overlap.{same_area}
use Rattle.afr_model.specs.Locks.{granted_by_line, locks_held, releases}
use Rattle.afr_model.specs.Report.{started_bricks, started_by}
use Rattle.afr_lines.specs.Places.{opens, place_of}
use Rattle.afr_model.specs.Sessions.{ends_session, is_linked}
use Rattle.afr_model.specs.Tables.{Past, held_before, holds, step}
use Rattle.afr_object.specs.Tables.{Table}
use Rattle.afr_plan.specs.declared.plan.Plan.{Plan}
use Rattle.afr_lines.specs.Locks.{is_lock}
use Rattle.afr_lines.specs.declared.lock.Domain.{Domain}
use Rattle.afr_lines.specs.declared.lock.HeldLock.{HeldLock}
use Rattle.afr_session.specs.Calls.{Does, only, Meet}
use Rattle.afr_session.specs.Links.{Links, link_of, met}
use Rattle.afr_session.specs.declared.link.Link.{Link}
use Rattle.afr_server.proofs.LinkLemmas.{link_line}
use Rattle.afr_server.proofs.LockLemmas.{same_locks}
use Rattle.afr_server.specs.Log.{IsServed, names_in, ranges_in}
use Rattle.afr_server.specs.NextLine.{is_elsewhere}
use Rattle.afr_server.specs.Outcome.{link_served}
use Rattle.afr_server.specs.Serving.{Serving}
use Rattle.std.proofs.lemmas.Bool.{not-true}

-- such a line neither grants nor releases nor ends anything on brick b
pub record LeavesAlone (p : Plan) (b : ℕ) (line : Line) (older : List Line) : Type 0 where
  pub releases : (lock : HeldLock Area) → releases line b lock ≡ false
  pub ends : (x : ℕ) → ends_session x b line ≡ false
  pub grants : granted_by_line b line ≡ []
  pub tables : (past : Past) (t : Table) → step p line b older past t ≡ t
  pub counts : (n : ℕ) → one_more b line n ≡ n
  pub starts : (s : List ℕ) → started_by line s ≡ s
  pub links : (x : ℕ) → is_linked x b (line ∷ older) ≡ is_linked x b older

none : (u v : Bool) → (u && false && v) ≡ false
none true v = refl
none false v = refl

releases_other : (a : ActorId) (y : BrickId) (r : Request) (told : Told) (took : Bool) (b : ℕ) (lock : HeldLock Area) → (y.0 == b) ≡ false → releases (Ask a y r told took) b lock ≡ false
releases_other a y r told took b lock h =
    by_locks (λ r. releases (Ask a y r told took) b lock ≡ false) (λ d area. refl)
    (λ d area. rw h (unreleased took (is_lock same_area (record { owner = a; domain = d; area = area }) lock)))
    (λ r plain. plain.releases a y told took b lock) r
  where
    unreleased : (took same : Bool) → (took && false && same) ≡ false
    unreleased true same = refl
    unreleased false same = refl

ends_other : (x : ℕ) (a : ActorId) (y : BrickId) (r : Request) (told : Told) (took : Bool) (b : ℕ) → (y.0 == b) ≡ false → ends_session x b (Ask a y r told took) ≡ false
ends_other x a y r as_told.Granted took b h = refl
ends_other x a y r (as_told.Held owner) took b h = refl
ends_other x a y r (as_told.Seen view) took b h = refl
ends_other x a y r as_told.Done took b h = refl
ends_other x a y r as_told.Given took b h = refl
ends_other x a y r as_told.NoObject took b h = refl
ends_other x a y r as_told.NotConnected took b h = rw h (none (a.0 == x) took)
ends_other x a y r as_told.Failed took b h = refl

grants_lock : (a : ActorId) (y : BrickId) (d : Domain) (area : Area) (told : Told) (took : Bool) (b : ℕ) → (y.0 == b) ≡ false → granted_by_line b (Ask a y (Lock d area) told took) ≡ []
grants_lock a y d area as_told.Granted took b h = rw h refl
grants_lock a y d area (as_told.Held owner) took b h = refl
grants_lock a y d area (as_told.Seen view) took b h = refl
grants_lock a y d area as_told.Done took b h = refl
grants_lock a y d area as_told.Given took b h = refl
grants_lock a y d area as_told.NoObject took b h = refl
grants_lock a y d area as_told.NotConnected took b h = refl
grants_lock a y d area as_told.Failed took b h = refl

grants_other : (a : ActorId) (y : BrickId) (r : Request) (told : Told) (took : Bool) (b : ℕ) → (y.0 == b) ≡ false → granted_by_line b (Ask a y r told took) ≡ []
grants_other a y r told took b h = by_locks (λ r. granted_by_line b (Ask a y r told took) ≡ []) (λ d area. grants_lock a y d area told took b h) (λ d area. refl) (λ r plain. plain.grants a y told took b) r

tables_other : (p : Plan) (a : ActorId) (y : BrickId) (r : Request) (told : Told) (took : Bool) (b : ℕ) (older : List Line) (past : Past) (t : Table) → (y.0 == b) ≡ false → step p (Ask a y r told took) b older past t ≡ t
tables_other p a y r told true b older past t h = rw h refl
tables_other p a y r told false b older past t h = refl

alone : (p : Plan) (b : ℕ) (line : Line) (older : List Line) → is_elsewhere b line ≡ true → LeavesAlone p b line older
alone p b (Ask a y r told took) older h =
    let e = not-true (y.0 == b) h in
    record {
      releases = λ lock. releases_other a y r told took b lock e;
      ends = λ x. ends_other x a y r told took b e;
      grants = grants_other a y r told took b e;
      tables = λ past t. tables_other p a y r told took b older past t e;
      counts = λ n. rw e refl;
      starts = λ s. refl;
      links = λ x. refl;
    }
alone p b (Begin x change) older h = record { releases = λ lock. refl; ends = λ x. refl; grants = refl; tables = λ past t. refl; counts = λ n. refl; starts = λ s. refl; links = λ x. refl }
alone p b (HealBegin x g kind) older h = record { releases = λ lock. refl; ends = λ x. refl; grants = refl; tables = λ past t. refl; counts = λ n. refl; starts = λ s. refl; links = λ x. refl }
alone p b (End x reply) older h = record { releases = λ lock. refl; ends = λ x. refl; grants = refl; tables = λ past t. refl; counts = λ n. refl; starts = λ s. refl; links = λ x. refl }
alone p b (HealEnd x g kind reply) older h = record { releases = λ lock. refl; ends = λ x. refl; grants = refl; tables = λ past t. refl; counts = λ n. refl; starts = λ s. refl; links = λ x. refl }
alone p b (line_of.Event event) older h = absurd (cc)

and_none : (u : Bool) → false ≡ (u && false)
and_none true = refl
and_none false = refl

passed : (p : Plan) (log : List Line) (line : Line) (b a : ℕ) (first : Bool) (s : Serving) (links : Links) → IsServed p log b s → is_elsewhere b line ≡ true
    → ((x : ℕ) → is_of x line ≡ (a == x)) → opens (place_of a log) line ≡ first
    → links.started ≡ s.links.started → ((x : ℕ) → link_of x links ≡ only a x (link_served first false s.links.started) (link_of x s.links))
    → IsServed p (line ∷ log) b (record s { links = links })
passed p log line b a first s links v there by opened started each =
    let l = alone p b line log there in
    record {
      keeps = v.keeps;
      objects = v.objects ∙ sym (l.tables (held_before p log) (holds p log b));
      ranges = v.ranges ∙ ap ranges_in (sym (same_locks line b (locks_held b log) l.releases l.ends l.grants));
      names = v.names ∙ ap names_in (sym (same_locks line b (locks_held b log) l.releases l.ends l.grants));
      started = started ∙ v.started ∙ ap (λ (s : List ℕ). member s b) (sym (l.starts (started_bricks p.shape.n log)));
      links = λ x small. rw (each x) (link_line p log line a b x first false s.links.started (link_of x s.links) by opened (λ x. l.ends x ∙ and_none (a == x)) l.links v.started (v.links x small));
      requests = v.requests ∙ sym (l.counts (requests_to b log));
      planned = v.planned;
    }

untouched : (c started : Bool) (l : Link) → l ≡ (if c then link_served false false started l else l)
untouched true started l = refl
untouched false started l = refl

-- a line that opens no session, and is addressed elsewhere, leaves the server as it is
pub served_elsewhere : (p : Plan) (log : List Line) (line : Line) (b a : ℕ) (s : Serving) → IsServed p log b s → is_elsewhere b line ≡ true
    → ((x : ℕ) → is_of x line ≡ (a == x)) → opens (place_of a log) line ≡ false → IsServed p (line ∷ log) b s
served_elsewhere p log line b a s v there by opened = passed p log line b a false s s.links v there by opened refl (λ x. untouched (a == x) s.links.started (link_of x s.links))

-- after one that opens sessions its actor meets the brick
pub served_met : (p : Plan) (log : List Line) (line : Line) (b a : ℕ) (s s' : Serving) → IsServed p log b s → is_elsewhere b line ≡ true
    → ((x : ℕ) → is_of x line ≡ (a == x)) → opens (place_of a log) line ≡ true
    → Does (Meet a) s.links s'.links → s' ≡ record s { links = s'.links } → IsServed p (line ∷ log) b s'
served_met p log line b a s s' v there by opened met same = rw same (passed p log line b a true s s'.links v there by opened met.started met.links)
