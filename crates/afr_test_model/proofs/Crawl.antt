-- A crawl: a round that heals nothing, the task of an item that it was given, and what was tried.
use Rattle.std.specs.Prelude.{◌≡◌, ℕ, ◌+◌, ◌-◌, ◌≤◌, ◌==◌, Bool, true, false, List, [], ◌∷◌, Option, Some, None, refl}
use Rattle.std.proofs.Common.{arith, inl, inr, suc, sym, zero}
use Rattle.afr_base.specs.declared.ids.Gfid.{Gfid}
use Rattle.afr_base.specs.declared.ids.Kind.{Kind}
use Rattle.afr_base.specs.declared.ids.Kind.TheVariants.{Attrs, Bytes}
use Rattle.afr_base.specs.declared.ids.What.TheVariants.{File}
use Rattle.afr_object.specs.Tables.{root}
use Rattle.afr_lines.specs.Work.{work}
use Rattle.afr_lines.specs.declared.answer.Told.TheVariants as told
use Rattle.afr_lines.specs.declared.line.Line.{Line}
use Rattle.afr_lines.specs.declared.line.Line.TheVariants.{Ask, End, HealBegin, HealEnd}
use Rattle.afr_lines.specs.declared.reply.Good.TheVariants as good
use Rattle.afr_lines.specs.declared.reply.HealReply.TheVariants as healed
use Rattle.afr_lines.specs.declared.reply.Reply.TheVariants as reply
use Rattle.afr_lines.specs.declared.request.Request.TheVariants as request
use Rattle.afr_plan.specs.declared.plan.Plan.{Plan}
use Rattle.afr_model.specs.Actors.{rounds_of}
use Rattle.afr_model.specs.Crawl.{CanCrawl, IsGiven, IsTried, IsWorker, KeepsToCrawl, KeepsToItem, list_at, lists_by, tasks_by}
use Rattle.afr_model.specs.Following.{KeepsToTask}
use Rattle.afr_test_model.proofs.HealWords.{heals, index}
use Rattle.afr_test_model.proofs.Means.{from_none, told_apart}
use Rattle.afr_test_model.proofs.Words.{brick, file, half_written, healer, other, plan}

-- the plan with three healers, of which the first has a round
abbrev pub crawling : Plan
crawling = record plan { healers = (brick 0 ∷ []) ∷ [] ∷ [] ∷ [] }

-- it can be crawled
pub it_can_be_crawled : CanCrawl crawling
it_can_be_crawled = record { healers = refl; crawls = λ a worker. none a worker }
  where
    none : (a : ℕ) → IsWorker a → rounds_of crawling a ≡ []
    none a worker = by (a - 18) (omega (arith, worker.0)) (omega (arith, worker.0, worker.1))
      where
        by : (k : ℕ) → a ≡ 18 + k → k ≤ 1 → rounds_of crawling a ≡ []
        by zero e small = rw e refl
        by (suc zero) e small = rw e refl
        by (suc (suc k)) e small = absurd (omega (arith, small))

-- ---- the crawler
-- the round asks its index
pub the_crawler_asks_its_index : KeepsToCrawl (brick 0) (index 0) []
the_crawler_asks_its_index = (refl, refl)

-- and begins no heal
pub the_crawler_heals_nothing : KeepsToCrawl (brick 0) (heals Attrs) (work 17 (index 0 ∷ half_written)) → ⊥
the_crawler_heals_nothing keeps = from_none _ keeps

-- its round has ended
abbrev pub crawled : List Line
crawled = End healer (reply.Ok good.Done) ∷ index 0 ∷ half_written

-- with its list
pub the_round_has_its_list : list_at 0 (lists_by crawling crawled) ≡ Some ((file, File) ∷ [])
the_round_has_its_list = refl

-- before its end it has none
pub no_list_before_the_end : list_at 0 (lists_by crawling (index 0 ∷ half_written)) ≡ None
no_list_before_the_end = refl

-- ---- a worker
-- the file is of the crawler's list
pub the_file_was_given : IsGiven crawling (file, File) crawled
the_file_was_given = inr (inl (refl, (0, omega arith, refl)))

-- and was of none before the index
pub nothing_was_given_before : IsGiven crawling (file, File) [] → ⊥
nothing_was_given_before given = given

-- the worker begins with the attributes of the file
pub a_worker_heals_what_was_given : KeepsToTask true crawling 18 (HealBegin other file Attrs) crawled
a_worker_heals_what_was_given = KeepsToTask.ToItem refl (omega arith) (file, File) the_file_was_given (refl, tt)

-- the heal is of the root
abbrev pub is_of_the_root : Option (Gfid × Kind) → Bool
is_of_the_root None = false
is_of_the_root (Some due) = due.0.0 == 1

-- the task of the file is no task of the root
pub a_task_is_of_its_item : KeepsToItem (file, File) (HealBegin other root Attrs) [] → ⊥
a_task_is_of_its_item keeps = told_apart is_of_the_root _ _ refl refl (sym keeps)

-- nor does it ask for an index
pub a_task_asks_no_index : KeepsToItem (file, File) (Ask other (brick 0) request.Index told.Given true) [] → ⊥
a_task_asks_no_index keeps = from_none _ keeps.about

-- ---- what was tried
-- the task has ended
abbrev pub tried : List Line
tried = End other (reply.Ok good.Done) ∷ HealEnd other file Bytes healed.Settled ∷ HealEnd other file Attrs healed.Nothing ∷ crawled

-- it was the file's
pub the_task_was_of_the_file : tasks_by 18 tried ≡ (file, File) ∷ []
the_task_was_of_the_file = refl

-- one item on both sides
once : (n : ℕ) → (0 + n) + 0 ≡ 0 + n
once n = omega arith

-- each item of the list was tried once
pub the_log_is_tried : IsTried crawling tried
the_log_is_tried = λ worth. once (worth (file, File))

-- without the task an item was left out
pub an_item_is_left_out : IsTried crawling crawled → ⊥
an_item_is_left_out all = apart (all (λ item. 1))
  where
    apart : ◌≡◌ {A = ℕ} 0 1 → ⊥
    apart e = absurd (omega (arith, e))

-- with the task twice one was tried too often
pub an_item_is_tried_twice : IsTried crawling (End other (reply.Ok good.Done) ∷ HealEnd other file Bytes healed.Settled ∷ tried) → ⊥
an_item_is_tried_twice all = apart (all (λ item. 1))
  where
    apart : ◌≡◌ {A = ℕ} 2 1 → ⊥
    apart e = absurd (omega (arith, e))
