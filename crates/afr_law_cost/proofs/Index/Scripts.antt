-- The lines of a log make no more objects than the scripts have commands that make one.
use Rattle.std.proofs.Common.{◌≡◌, ℕ, zero, suc, ◌+◌, ◌-◌, ◌<◌, ◌≤◌, ◌==◌, Bool, true, false, refl, sym, subst, arith, List, [], ◌∷◌, ◌++◌, length, Option, Some, None, length-append}
use Rattle.std.specs.List.{range_with_len}
use Rattle.std.specs.Option.{option_map}
use Rattle.std.specs.Prelude.{if◌then◌else◌, slice_get, slice_index_or}
use Rattle.std.proofs.lemmas.Bool.{eqb-true, ne_eqb}
use Rattle.afr_base.specs.declared.ids.ActorId.{ActorId}
use Rattle.afr_base.specs.declared.ids.Gfid.{Gfid}
use Rattle.afr_base.specs.declared.ids.NameId.{NameId}
use Rattle.afr_law_names.proofs.Numbers.{Given, IsNumbered, Opening, numbered}
use Rattle.afr_law_names.proofs.ReadLemmas.{HasReadBy}
use Rattle.afr_base.specs.declared.ids.What.TheVariants.{Dir, File}
use Rattle.afr_base.specs.declared.ids.What.{What}
use Rattle.afr_law_bound.proofs.Ends.Sums.{in_range, total_le, total_less}
use Rattle.afr_law_bound.specs.Ends.Cost.{makes, total}
use Rattle.afr_law_names.proofs.Descent.Makes.{plan_before}
use Rattle.afr_law_names.specs.Descent.Descent.{IsOfPlan}
use Rattle.afr_law.specs.Exactly.{name_bound}
use Rattle.afr_lines.specs.Work.{Work, ended, is_of, work}
use Rattle.afr_law_names.proofs.Links.Found.{found_read}
use Rattle.afr_lines.specs.declared.line.Line.TheVariants.{Ask, Begin, End, Event, HealBegin, HealEnd}
use Rattle.afr_lines.specs.declared.line.Line.{Line}
use Rattle.afr_model.specs.Actors.{Client, Healer, IsActor, script_of}
use Rattle.afr_model.specs.Commands.{change_named, last_of}
use Rattle.afr_model.specs.Following.{Follows, IsFollowing, KeepsToCommand, KeepsToTask, ToCommand, ToCrawl, ToItem, ToRound}
use Rattle.afr_model.specs.Keeping.{KeepsTo}
use Rattle.afr_model.specs.Parts.{Makes, Part, Removes, Walks, part_at}
use Rattle.afr_model.specs.Renamed.{HasFound, KeepsToPart}
use Rattle.afr_model.specs.Showing.{begins_attempt, has}
use Rattle.afr_model_moves.proofs.Tests.{same_self}
use Rattle.afr_object.specs.declared.change.Change.TheVariants.{Cut, Make, Remove, SetAttr, Write}
use Rattle.afr_object.specs.declared.change.Change.{Change}
use Rattle.afr_plan.specs.declared.command.Command.TheVariants as command
use Rattle.afr_plan.specs.declared.command.Command.{Command}
use Rattle.afr_plan.specs.declared.plan.Plan.{Plan}
use Rattle.afr_law_cost.proofs.Index.Known.{made_numbers, numbers_in}
use Rattle.afr_law_bound.proofs.Circle.{In}

-- ---- a script
-- how many objects its first k commands make
abbrev upto : ℕ → List Command → ℕ
upto zero cs = 0
upto (suc k) [] = 0
upto (suc k) (c ∷ cs) = makes c + upto k cs

abbrev makes_in : Option Command → ℕ
makes_in None = 0
makes_in (Some c) = makes c

upto_next : (k : ℕ) (cs : List Command) → upto (suc k) cs ≡ upto k cs + makes_in (slice_get cs k)
upto_next zero [] = refl
upto_next zero (c ∷ cs) = omega arith
upto_next (suc k) [] = refl
upto_next (suc k) (c ∷ cs) = (let h = upto_next k cs in omega (arith, h))

upto_most : (k : ℕ) (cs : List Command) → upto k cs + makes_in (slice_get cs k) ≤ total makes cs
upto_most zero [] = omega arith
upto_most zero (c ∷ cs) = omega arith
upto_most (suc k) [] = omega arith
upto_most (suc k) (c ∷ cs) = (let h = upto_most k cs in omega (arith, h))

if_most : (b : Bool) (m : ℕ) → (if b then m else 0) ≤ m
if_most true m = omega arith
if_most false m = omega arith

-- ---- a command
abbrev count_in : ℕ → ActorId → Option Change → ℕ
count_in at x None = 0
count_in at x (Some change) = length (numbers_in at (Begin x change))

at_most_one : (own : Bool) (g : ℕ) → length (if own then g ∷ [] else []) ≤ 1
at_most_one true g = omega arith
at_most_one false g = omega arith

removed_count : (x : ActorId) (h : Gfid) (at : ℕ) (what : What) (o : Option NameId) → count_in at x (option_map (λ name. Remove h name what) o) ≤ 0
removed_count x h at what None = omega arith
removed_count x h at what (Some name) = omega arith

named_count : (x : ActorId) (h : Gfid) (at : ℕ) (c : Command) → count_in at x (change_named h at c) ≤ makes c
named_count x h at (command.Create path) = go (last_of path)
  where
    go : (o : Option NameId) → count_in at x (option_map (λ name. Make h name (record { 0 = at + 2 }) File) o) ≤ 1
    go None = omega arith
    go (Some name) = at_most_one (at + 2 == at + 2) (at + 2)
named_count x h at (command.Mkdir path) = go (last_of path)
  where
    go : (o : Option NameId) → count_in at x (option_map (λ name. Make h name (record { 0 = at + 2 }) Dir) o) ≤ 1
    go None = omega arith
    go (Some name) = at_most_one (at + 2 == at + 2) (at + 2)
named_count x h at (command.Unlink path) = removed_count x h at File (last_of path)
named_count x h at (command.Rmdir path) = removed_count x h at Dir (last_of path)
named_count x h at c = omega arith

-- ---- an actor
-- how many objects its lines made
abbrev pub made_by : ℕ → List Line → ℕ
made_by a [] = 0
made_by a (line ∷ older) = (if is_of a line then length (numbers_in (length older) line) else 0) + made_by a older

-- they are those of the commands that it has ended, and that of the present one, where it has begun its change
abbrev IsCounted : Plan → ℕ → List Line → Type 0
IsCounted p a log = made_by a log ≤ upto (ended a log) (script_of p a) + (if has begins_attempt (work a log) then makes_in (slice_get (script_of p a) (ended a log)) else 0)

-- a command with one path begins one change, the one that its words name; what a rename begins makes nothing
data Begun (p : Plan) (x : ActorId) (change : Change) (older : List Line) : Type 0 where
  First : has begins_attempt (work x.0 older) ≡ false → length (numbers_in (length older) (Begin x change)) ≤ makes_in (slice_get (script_of p x.0) (ended x.0 older)) → Begun p x change older
  Links : length (numbers_in (length older) (Begin x change)) ≡ 0 → Begun p x change older

-- a file that was found has the number of an earlier line
linked_count : (p : Plan) (x : ActorId) (older : List Line) → IsOfPlan p older → (from : List NameId) (h file : Gfid) → HasFound p from file (work x.0 older) → (o : Option NameId) → count_in (length older) x (option_map (λ name. Make h name file File) o) ≤ 0
linked_count p x older f from h file found None = omega arith
linked_count p x older f from h file found (Some name) = rw other (omega arith)
  where
    read : HasReadBy p (name_bound p) x.0 file File older
    read = found_read p x older from file f.few f.short f.honest f.lawful found

    apart : IsNumbered p read.r file.0 → (file.0 == length older + 2) ≡ false
    apart (Opening known high) = (let short = f.short in ne_eqb file.0 (length older + 2) (λ e. omega (arith, e, short, high)))
    apart (Given some low) = (let past = read.past in ne_eqb file.0 (length older + 2) (λ e. omega (arith, e, past, low)))

    other : (file.0 == length older + 2) ≡ false
    other = apart (numbered p older f.few f.short f.honest f.lawful read.r read.b read.dir read.name file.0 File read.gave)

-- the change is the one that these words name
count_of : (x : ActorId) (at n : ℕ) (o : Option Change) (change : Change) → o ≡ Some change → count_in at x o ≤ n → length (numbers_in at (Begin x change)) ≤ n
count_of x at n o change e h = subst (λ (y : Option Change). count_in at x y ≤ n) e h

part_count : (p : Plan) (x : ActorId) (change : Change) (older : List Line) → IsOfPlan p older → (from to : List NameId) (part : Part) → KeepsToPart part p from to (Begin x change) (length older) (work x.0 older) → length (numbers_in (length older) (Begin x change)) ≤ 0
part_count p x change older f from to Walks k = count_of x (length older) 0 None change k.1.named (omega arith)
part_count p x change older f from to Makes k = count_of x (length older) 0 _ change k.1.named (linked_count p x older f from k.1.dir.gfid k.1.file k.1.found (last_of to))
part_count p x change older f from to Removes k = count_of x (length older) 0 _ change k.1.named (removed_count x k.1.object.gfid (length older) File (last_of from))

begun : (crawl : Bool) (p : Plan) (x : ActorId) (change : Change) (older : List Line) → IsOfPlan p older → IsFollowing crawl p (Begin x change) older → Begun p x change older
begun crawl p x change older of f = go f.1.0.keeps
  where
    by_path : (c : Command) → slice_get (script_of p x.0) (ended x.0 older) ≡ Some c → KeepsTo p c (Begin x change) (length older) (work x.0 older) → Begun p x change older
    by_path c e k = First k.0 (subst (λ (o : Option Command). length (numbers_in (length older) (Begin x change)) ≤ makes_in o) (sym e) (count_of x (length older) (makes c) (change_named k.1.object.gfid (length older) c) change k.1.named (named_count x k.1.object.gfid (length older) c)))

    by_command : (c : Command) → slice_get (script_of p x.0) (ended x.0 older) ≡ Some c → KeepsToCommand p c (Begin x change) (length older) (work x.0 older) → Begun p x change older
    by_command (command.Rename from to) e k = (let none = part_count p x change older of from to (part_at from (Begin x change) (work x.0 older)) k in Links (omega (arith, none)))
    by_command c e k = by_path c e k

    go : KeepsToTask crawl p x.0 (Begin x change) older → Begun p x change older
    go (ToRound plain high b e k) = absurd k
    go (ToCrawl crawls who b e k) = absurd k
    go (ToItem crawls high item e k) = absurd k.0
    go (ToCommand c e k) = by_command c e k

module _ (crawl : Bool) (p : Plan) (a : ℕ) (older : List Line) (of : IsOfPlan p older) (h : IsCounted p a older) where
  abbrev M : ℕ
  M = made_by a older

  abbrev U : ℕ → ℕ
  U k = upto k (script_of p a)

  abbrev E : ℕ
  E = ended a older

  abbrev W : Work
  W = work a older

  abbrev m : ℕ → ℕ
  m k = makes_in (slice_get (script_of p a) k)

  counted_next : (line : Line) → IsFollowing crawl p line older → IsCounted p a (line ∷ older)
  counted_next (End x reply) f = go (x.0 == a)
    where
      go : (mine : Bool) → (if mine then 0 else 0) + M ≤ U (if mine then E + 1 else E) + (if has begins_attempt (if mine then [] else W) then m (if mine then E + 1 else E) else 0)
      go false = omega (arith, h)
      go true =
          let one : E + 1 ≡ suc E = omega arith in
          let next : U (E + 1) ≡ U E + m E = rw one (upto_next E (script_of p a)) in
          let low = if_most (has begins_attempt W) (m E) in
          omega (arith, h, next, low)
  counted_next (Begin x change) f = go (x.0 == a) refl (begun crawl p x change older of f)
    where
      go : (mine : Bool) → (x.0 == a) ≡ mine → Begun p x change older → (if mine then length (numbers_in (length older) (Begin x change)) else 0) + M ≤ U E + (if has begins_attempt (if mine then (Begin x change, older) ∷ W else W) then m E else 0)
      go false e w = omega (arith, h)
      go true e (First none some) =
          let who : x.0 ≡ a = eqb-true x.0 a e in
          let first : has begins_attempt W ≡ false = subst (λ (y : ℕ). has begins_attempt (work y older) ≡ false) who none in
          let few : length (numbers_in (length older) (Begin x change)) ≤ m E = subst (λ (y : ℕ). length (numbers_in (length older) (Begin x change)) ≤ makes_in (slice_get (script_of p y) (ended y older))) who some in
          let before : M ≤ U E + 0 = rw first at h in
          omega (arith, before, few)
      go true e (Links none) = (let low = if_most (has begins_attempt W) (m E) in omega (arith, h, low, none))
  counted_next (Ask x b r told took) f = go (x.0 == a)
    where
      go : (mine : Bool) → (if mine then 0 else 0) + M ≤ U E + (if has begins_attempt (if mine then (Ask x b r told took, older) ∷ W else W) then m E else 0)
      go true = omega (arith, h)
      go false = omega (arith, h)
  counted_next (HealBegin x g kind) f = go (x.0 == a)
    where
      go : (mine : Bool) → (if mine then 0 else 0) + M ≤ U E + (if has begins_attempt (if mine then (HealBegin x g kind, older) ∷ W else W) then m E else 0)
      go true = omega (arith, h)
      go false = omega (arith, h)
  counted_next (HealEnd x g kind said) f = go (x.0 == a)
    where
      go : (mine : Bool) → (if mine then 0 else 0) + M ≤ U E + (if has begins_attempt (if mine then (HealEnd x g kind said, older) ∷ W else W) then m E else 0)
      go true = omega (arith, h)
      go false = omega (arith, h)
  counted_next (Event event) f = omega (arith, h)

counted : (p : Plan) (log : List Line) → IsOfPlan p log → (a : ℕ) → IsCounted p a log
counted p [] f a = omega arith
counted p (line ∷ older) f a = (let before = plan_before p line older f in counted_next f.crawl p a older before (counted p older before a) line f.follows.0)

by_script : (p : Plan) (log : List Line) → IsOfPlan p log → (a : ℕ) → made_by a log ≤ total makes (script_of p a)
by_script p log f a = (
    let c = counted p log f a in
    let low = if_most (has begins_attempt (work a log)) (makes_in (slice_get (script_of p a) (ended a log))) in
    let all = upto_most (ended a log) (script_of p a) in
    omega (arith, c, low, all)
    )

-- ---- all actors
abbrev clients : Plan → List ℕ
clients p = range_with_len 1 (length p.clients)

has_script : (xs : List (List Command)) (i k : ℕ) (c : Command) → slice_get (slice_index_or xs i []) k ≡ Some c → i < length xs
has_script [] i k c e = absurd (cc e)
has_script (x ∷ xs) zero k c e = omega arith
has_script (x ∷ xs) (suc i) k c e = (let h = has_script xs i k c e in omega (arith, h))

-- a change is begun by a client alone
begun_by_client : (crawl : Bool) (p : Plan) (x : ActorId) (change : Change) (older : List Line) → IsFollowing crawl p (Begin x change) older → In x.0 (clients p)
begun_by_client crawl p x change older f = go f.1.0.actor f.1.0.keeps
  where
    go : IsActor p x.0 → KeepsToTask crawl p x.0 (Begin x change) older → In x.0 (clients p)
    go who (ToRound plain high b e k) = absurd k
    go who (ToCrawl crawls first b e k) = absurd k
    go who (ToItem crawls high item e k) = absurd k.0
    go (Client low high) (ToCommand c e k) = in_range 1 (length p.clients) x.0 low (omega (arith, high))
    go (Healer low high) (ToCommand c e k) = (let l = has_script p.clients (x.0 - 1) (ended x.0 older) c e in in_range 1 (length p.clients) x.0 (omega (arith, low)) (omega (arith, low, l)))

made_more : (a : ℕ) (line : Line) (older : List Line) → made_by a older ≤ made_by a (line ∷ older)
made_more a line older = omega arith

made_total : (crawl : Bool) (p : Plan) (log : List Line) → Follows crawl p log → length (made_numbers log) ≤ total (λ a. made_by a log) (clients p)
made_total crawl p [] f = omega arith
made_total crawl p (line ∷ older) f = go line f.0 (made_total crawl p older f.1)
  where
    same : (line : Line) → length (numbers_in (length older) line) ≡ 0 → length (made_numbers older) ≤ total (λ a. made_by a older) (clients p) → length (numbers_in (length older) line ++ made_numbers older) ≤ total (λ a. made_by a (line ∷ older)) (clients p)
    same line none h =
        let all = total_le (λ a. made_by a (line ∷ older)) (λ a. made_by a older) (clients p) (λ a. made_more a line older) in
        let size : length (numbers_in (length older) line ++ made_numbers older) ≡ length (numbers_in (length older) line) + length (made_numbers older) = length-append (numbers_in (length older) line) (made_numbers older) in
        omega (arith, h, all, size, none)

    go : (line : Line) → IsFollowing crawl p line older → length (made_numbers older) ≤ total (λ a. made_by a older) (clients p) → length (numbers_in (length older) line ++ made_numbers older) ≤ total (λ a. made_by a (line ∷ older)) (clients p)
    go (Begin x (Make dir name g what)) f h = by (g.0 == length older + 2) refl
      where
        by : (new : Bool) → (g.0 == length older + 2) ≡ new → length (numbers_in (length older) (Begin x (Make dir name g what)) ++ made_numbers older) ≤ total (λ a. made_by a (Begin x (Make dir name g what) ∷ older)) (clients p)
        by true e =
            let line : Line = Begin x (Make dir name g what) in
            let one : length (numbers_in (length older) line) ≡ 1 = rw e refl in
            let mine : made_by x.0 older < made_by x.0 (line ∷ older) = rw (same_self x.0, e) (omega arith) in
            let all = total_less (λ a. made_by a (line ∷ older)) (λ a. made_by a older) (clients p) x.0 (λ a. made_more a line older) (begun_by_client crawl p x (Make dir name g what) older f) mine in
            let size : length (numbers_in (length older) line ++ made_numbers older) ≡ length (numbers_in (length older) line) + length (made_numbers older) = length-append (numbers_in (length older) line) (made_numbers older) in
            omega (arith, h, all, size, one)
        by false e = same (Begin x (Make dir name g what)) (rw e refl) h
    go (Begin x (Write g at bytes)) f h = same (Begin x (Write g at bytes)) refl h
    go (Begin x (Cut g len)) f h = same (Begin x (Cut g len)) refl h
    go (Begin x (SetAttr g key value)) f h = same (Begin x (SetAttr g key value)) refl h
    go (Begin x (Remove dir name what)) f h = same (Begin x (Remove dir name what)) refl h
    go (Ask x b r told took) f h = same (Ask x b r told took) refl h
    go (HealBegin x g kind) f h = same (HealBegin x g kind) refl h
    go (End x reply) f h = same (End x reply) refl h
    go (HealEnd x g kind said) f h = same (HealEnd x g kind said) refl h
    go (Event event) f h = same (Event event) refl h

all_scripts : (f : ℕ → ℕ) (k : ℕ) (ss : List (List Command)) → ((i : ℕ) → f (k + i) ≤ total makes (slice_index_or ss i [])) → total f (range_with_len k (length ss)) ≤ total (λ script. total makes script) ss
all_scripts f k [] each = omega arith
all_scripts f k (s ∷ ss) each =
    let here : f k ≤ total makes s = subst (λ (j : ℕ). f j ≤ total makes s) (omega arith) (each 0) in
    let rest = all_scripts f (k + 1) ss (λ i. subst (λ (j : ℕ). f j ≤ total makes (slice_index_or ss i [])) (omega arith) (each (suc i))) in
    omega (arith, here, rest)

-- so the scripts bound what a log makes
pub made_few : (p : Plan) (log : List Line) → IsOfPlan p log → length (made_numbers log) ≤ total (λ script. total makes script) p.clients
made_few p log f =
    let lines = made_total f.crawl p log f.follows in
    let scripts = all_scripts (λ a. made_by a log) 1 p.clients (λ i. subst (λ (j : ℕ). made_by (1 + i) log ≤ total makes (slice_index_or p.clients j [])) (omega arith) (by_script p log f (1 + i))) in
    omega (arith, lines, scripts)
