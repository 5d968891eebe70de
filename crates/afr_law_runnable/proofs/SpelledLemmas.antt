-- What follows from the grammar: a plan that a text spells can be run.
use Rattle.std.proofs.Common.{◌≡◌, inl, inr, ℕ, ◌+◌, ◌<◌, ◌≤◌, List, [], ◌∷◌, ◌++◌, length, refl, sym, ap, ◌∙◌, subst, arith, Bool, true, false, cond, ◌||◌, ◌==◌, codes, suc, zero, length-append}
use Rattle.std.specs.Prelude.{count_by, nat_lt, nat_le}
use Rattle.std.specs.List.{All}
use Rattle.std.proofs.lemmas.Bool.{both_ways, or_parts}
use Rattle.std.proofs.lemmas.Bool.Decides.{nat_tests}
use Rattle.std.proofs.lemmas.List.Elements.{All-nil, All-cons, All-head, All-tail, All-push, All-weaker}
use Rattle.std.proofs.lemmas.List.Sums.{sum_by-cons}
use Rattle.afr_base.specs.Bricks.{and_right}
use Rattle.afr_base.specs.declared.ids.BrickId.{BrickId}
use Rattle.afr_base.specs.declared.ids.NameId.{NameId}
use Rattle.afr_base.specs.declared.ids.Shape.{Shape}
use Rattle.afr_lines.specs.declared.line.Event.{Event}
use Rattle.afr_lines.specs.declared.line.Event.TheVariants as event
use Rattle.afr_plan.specs.declared.command.Command.{Command as PlanCommand}
use Rattle.afr_plan.specs.declared.plan.Plan.{Plan}
use Rattle.afr_plan.specs.declared.plan.Words.{Words}
use Rattle.afr_plan.specs.declared.schedule.Go.{Go as Order}
use Rattle.afr_plan.specs.declared.schedule.PlannedEvent.{PlannedEvent}
use Rattle.afr_plan.specs.declared.version.Version.{Version}
use Rattle.afr_plan.specs.declared.version.Version.TheVariants.{One, Two}
use Rattle.afr_plan.specs.Happening.{Who, OfClient, OfHealer, Happening, Stop, Start, Cut, Join, Kill}
use Rattle.afr_plan.specs.Names.{with_name, with_names, number_of, file_name, file_names}
use Rattle.afr_plan.specs.Paths.{is_path, has_names, names_in}
use Rattle.afr_plan.specs.PlanOf.{onto_last, path_of, command_of, words_with, actor_of, event_of, plan_of}
use Rattle.afr_plan.specs.Rules.{word_of, is_one_of, may_stand, is_over, is_beyond, is_disordered, is_event_disordered, passes_total, passes_work, lacks_brick, lacks_who, bricks_of, is_client, is_healer, is_command, last_at}
use Rattle.afr_plan.specs.Said.{Said, IsSaid, IsShape, Afr, Volume, Files, Turns, Client, Command, Healer, Round, At, Go, End}
use Rattle.afr_plan.specs.Spelling.{IsNamedPath}
use Rattle.afr_plan.specs.Spells.{IsLine, AreLines, Spells}
use Rattle.afr_plan.specs.Action.{Action, IsCommand, Write, Create, Mkdir, Unlink, Rmdir, SetAttr, GetAttr, Rename}
use Rattle.afr_law_runnable.specs.Runnable.{AreRunnableRounds, IsAboutVolume, IsOneOf, IsRunnable, IsRunnableScript, IsRunnableShape, has_its_name}
use Rattle.afr_plan.specs.OnNames.{has_name}

-- ---- lists whose last item grows
onto_last-All : {A : Type 0} (P Q : List A → Type 0) (c : A) (gs : List (List A)) → All P gs → ((g : List A) → P g → Q g) → ((g : List A) → P g → Q (g ++ c ∷ [])) → All Q (onto_last c gs)
onto_last-All P Q c [] all kept more = All-nil Q
onto_last-All P Q c (g ∷ []) all kept more = All-cons Q (g ++ c ∷ []) [] (more g (All-head P g [] all)) (All-nil Q)
onto_last-All P Q c (g ∷ h ∷ gs) all kept more = All-cons Q g (onto_last c (h ∷ gs)) (kept g (All-head P g (h ∷ gs) all)) (onto_last-All P Q c (h ∷ gs) (All-tail P g (h ∷ gs) all) kept more)

length-onto_last : {A : Type 0} (x : A) (gs : List (List A)) → length (onto_last x gs) ≡ length gs
length-onto_last x [] = refl
length-onto_last x (g ∷ []) = refl
length-onto_last x (g ∷ h ∷ gs) = let e = length-onto_last x (h ∷ gs) in omega (arith, e)

-- a count with one line more
count-cons : (p : Said → Bool) (s : Said) (before : List Said) → count_by p (s ∷ before) ≡ cond {A = ℕ} (p s) 1 0 + count_by p before
count-cons p s before = sum_by-cons (λ y. cond {A = ℕ} (p y) 1 0) s before

-- ---- how far the head has come
-- how many lines of the head there are, by the newest line
abbrev level : List Said → ℕ
level [] = 0
level (Afr v ∷ older) = 1
level (Volume v shape ∷ older) = 2
level (Files k ∷ older) = 3
level (s ∷ older) = 4

-- a line past the head
abbrev is_late : Said → Bool
is_late (Afr v) = false
is_late (Volume v shape) = false
is_late (Files k) = false
is_late (Turns t) = false
is_late s = true

late_words : (s : Said) → is_late s ≡ true → (is_one_of (codes "afr" ∷ []) (word_of s) ≡ false) × (is_one_of (codes "volume" ∷ []) (word_of s) ≡ false) × (is_one_of (codes "files" ∷ []) (word_of s) ≡ false) × (is_one_of (codes "turns" ∷ []) (word_of s) ≡ false)
late_words (Afr v) l = absurd (cc)
late_words (Volume v shape) l = absurd (cc)
late_words (Files k) l = absurd (cc)
late_words (Turns t) l = absurd (cc)
late_words (Command path (Write at bytes)) l = (refl, refl, refl, refl)
late_words (Command path w) l = (refl, refl, refl, refl)
late_words s l = (refl, refl, refl, refl)

past_head : (before : List Said) (s : Said) → is_late s ≡ true → may_stand before s ≡ true → level before ≡ 4
past_head [] s l m = absurd (both_ways _ (late_words s l).0 m)
past_head (Afr v ∷ older) s l m = absurd (both_ways _ (late_words s l).1 m)
past_head (Volume v shape ∷ older) s l m = absurd (both_ways _ (late_words s l).2 m)
past_head (Files k ∷ older) s l m = absurd (both_ways _ (late_words s l).3 m)
past_head (newest ∷ older) s l m = refl

-- before a line of the head comes another, or none
in_head : (before : List Said) (s : Said) → level (s ∷ before) < 4 → may_stand before s ≡ true → level before < 4
in_head [] s l m = omega arith
in_head (Afr v ∷ older) s l m = omega arith
in_head (Volume v shape ∷ older) s l m = omega arith
in_head (Files k ∷ older) s l m = omega arith
in_head (newest ∷ older) (Afr v) l m = absurd (cc)
in_head (newest ∷ older) (Volume v shape) l m = absurd (cc)
in_head (newest ∷ older) (Files k) l m = absurd (cc)
in_head (newest ∷ older) s l m = absurd (omega (arith, l))

-- ---- the head
shape_runs : (v : Version) (w : List ℕ) (shape : Shape) → IsShape v w shape → IsRunnableShape shape
shape_runs One w shape (inl h) = subst IsRunnableShape h.1 (inl refl)
shape_runs One w shape (inr h) = subst IsRunnableShape h.1 (inl refl)
shape_runs Two w shape (inl h) = subst IsRunnableShape h.1 (inl refl)
shape_runs Two w shape (inr (inl h)) = subst IsRunnableShape h.1 (inr (refl, refl))
shape_runs Two w shape (inr (inr h)) = subst IsRunnableShape h.1 (inl refl)

shape_next : (before : List Said) (line : List ℕ) (s : Said) → IsSaid line s → IsRunnableShape (plan_of before).shape → IsRunnableShape (plan_of (s ∷ before)).shape
shape_next before line (Volume v shape) said h = shape_runs v said.0 shape said.1
shape_next before line s said h = h

bricks_next : (before : List Said) (s : Said) → bricks_of before ≤ (plan_of before).shape.n → bricks_of (s ∷ before) ≤ (plan_of (s ∷ before)).shape.n
bricks_next before (Volume v shape) h = omega arith
bricks_next before s h = h

files_next : (before : List Said) (s : Said) → is_beyond s ≡ false → (plan_of before).files ≤ 1000 → (plan_of (s ∷ before)).files ≤ 1000
files_next before (Files k) b h = grind (arith, nat_tests, b)
files_next before s b h = h

count_within : (t : ℕ) → (nat_lt t 1 || nat_lt 4000000 t) ≡ false → (1 ≤ t) × (t ≤ 4000000)
count_within t b = let p = or_parts (nat_lt t 1) (nat_lt 4000000 t) b in let low = p.0 in let high = p.1 in (grind (arith, nat_tests, low), grind (arith, nat_tests, high))

turns_next : (before : List Said) (s : Said) → is_beyond s ≡ false → (plan_of before).turns ≤ 4000000 → (plan_of (s ∷ before)).turns ≤ 4000000
turns_next before (Turns t) b h = (count_within t b).1
turns_next before s b h = h

some_turns_next : (before : List Said) (s : Said) → may_stand before s ≡ true → is_beyond s ≡ false → (level before ≡ 4 → 1 ≤ (plan_of before).turns) → level (s ∷ before) ≡ 4 → 1 ≤ (plan_of (s ∷ before)).turns
some_turns_next before (Afr v) m b h l = absurd (omega (arith, l))
some_turns_next before (Volume v shape) m b h l = absurd (omega (arith, l))
some_turns_next before (Files k) m b h l = absurd (omega (arith, l))
some_turns_next before (Turns t) m b h l = (count_within t b).0
some_turns_next before s m b h l = h (past_head before s refl m)

pub length-file_names : (k : ℕ) → length (file_names k) ≡ k
length-file_names zero = refl
length-file_names (suc k) = omega (arith, length-file_names k, length-append (file_names k) (file_name (suc k) ∷ []))

name_grows : (names : List (List ℕ)) (name : List ℕ) → length names ≤ length (with_name names name)
name_grows names name = grows _
  where
    grows : (b : Bool) → length names ≤ length (cond b names (names ++ name ∷ []))
    grows true = omega arith
    grows false = omega (arith, length-append names (name ∷ []))

names_grow : (path names : List (List ℕ)) → length names ≤ length (with_names names path)
names_grow [] names = omega arith
names_grow (name ∷ path) names = omega (arith, name_grows names name, names_grow path (with_name names name))

words_grow : (words : Words) (path : List (List ℕ)) (w : Action) → length words.names ≤ length (words_with words path w).names
words_grow words path (SetAttr key value) = names_grow path words.names
words_grow words path (GetAttr key) = names_grow path words.names
words_grow words path (Rename to) = omega (arith, names_grow path words.names, names_grow to (with_names words.names path))
words_grow words path w = names_grow path words.names

names_next : (before : List Said) (s : Said) → (plan_of before).files ≤ length (plan_of before).words.names → (plan_of (s ∷ before)).files ≤ length (plan_of (s ∷ before)).words.names
names_next before (Files k) h = omega (arith, length-file_names k)
names_next before (Command path w) h =
    let p : Plan = plan_of before in
    omega (arith, h, words_grow p.words path w)
names_next before s h = h

-- nothing that names a brick stands before the head is whole
abbrev IsBare : Plan → Type 0
IsBare p = (p.healers ≡ []) × (p.events ≡ [])

bare_next : (before : List Said) (s : Said) → may_stand before s ≡ true → (level before < 4 → IsBare (plan_of before)) → level (s ∷ before) < 4 → IsBare (plan_of (s ∷ before))
bare_next before (Afr v) m h l = h (in_head before (Afr v) l m)
bare_next before (Volume v shape) m h l = h (in_head before (Volume v shape) l m)
bare_next before (Files k) m h l = h (in_head before (Files k) l m)
bare_next before s m h l = absurd (omega (arith, l))

-- ---- actors
clients_next : (before : List Said) (s : Said) → length (plan_of before).clients ≡ count_by is_client before → length (plan_of (s ∷ before)).clients ≡ count_by is_client (s ∷ before)
clients_next before (Client i) h = omega (arith, h, length-append (plan_of before).clients ([] ∷ []), count-cons is_client (Client i) before)
clients_next before (Command path w) h = omega (arith, h, length-onto_last (command_of (plan_of before).words path w) (plan_of before).clients, count-cons is_client (Command path w) before)
clients_next before s h = omega (arith, h, count-cons is_client s before)

healers_next : (before : List Said) (s : Said) → length (plan_of before).healers ≡ count_by is_healer before → length (plan_of (s ∷ before)).healers ≡ count_by is_healer (s ∷ before)
healers_next before (Healer j) h = omega (arith, h, length-append (plan_of before).healers ([] ∷ []), count-cons is_healer (Healer j) before)
healers_next before (Round brick) h =
    let b : BrickId = record { 0 = brick } in
    omega (arith, h, length-onto_last b (plan_of before).healers, count-cons is_healer (Round brick) before)
healers_next before s h = omega (arith, h, count-cons is_healer s before)

few_clients_next : (before : List Said) (s : Said) → is_beyond s ≡ false → is_disordered before s ≡ false → length (plan_of before).clients ≡ count_by is_client before → length (plan_of before).clients ≤ 16 → length (plan_of (s ∷ before)).clients ≤ 16
few_clients_next before (Client i) b o e h =
    let next : i ≡ count_by is_client before + 1 = grind (arith, nat_tests, o) in
    let small : i ≤ 16 = grind (arith, nat_tests, b) in
    omega (arith, e, next, small, length-append (plan_of before).clients ([] ∷ []))
few_clients_next before (Command path w) b o e h = omega (arith, h, length-onto_last (command_of (plan_of before).words path w) (plan_of before).clients)
few_clients_next before s b o e h = h

few_healers_next : (before : List Said) (s : Said) → is_beyond s ≡ false → is_disordered before s ≡ false → length (plan_of before).healers ≡ count_by is_healer before → length (plan_of before).healers ≤ 3 → length (plan_of (s ∷ before)).healers ≤ 3
few_healers_next before (Healer j) b o e h =
    let next : j ≡ count_by is_healer before + 1 = grind (arith, nat_tests, o) in
    let small : j ≤ 3 = grind (arith, nat_tests, b) in
    omega (arith, e, next, small, length-append (plan_of before).healers ([] ∷ []))
few_healers_next before (Round brick) b o e h =
    let x : BrickId = record { 0 = brick } in
    omega (arith, h, length-onto_last x (plan_of before).healers)
few_healers_next before s b o e h = h

-- ---- scripts
commands_next : (before : List Said) (s : Said) → passes_total before s ≡ false → count_by is_command before ≤ 16384 → count_by is_command (s ∷ before) ≤ 16384
commands_next before (Command path w) t h =
    let f = (or_parts (nat_le 16384 (count_by is_command before)) (passes_work before w) t).0 in
    let few : count_by is_command before < 16384 = grind (arith, nat_tests, f) in
    omega (arith, few, count-cons is_command (Command path w) before)
commands_next before s t h = omega (arith, h, count-cons is_command s before)

-- at most so many commands, each with the name that it needs
abbrev IsScript : ℕ → List PlanCommand → Type 0
IsScript n script = (length script ≤ n) × All (λ command. has_its_name command ≡ true) script

some_name : (name : NameId) (path : List NameId) → has_name (name ∷ path) ≡ true
some_name name path = grind (arith, nat_tests)

path_named : (names path : List (List ℕ)) → has_names path ≡ true → has_name (path_of names path) ≡ true
path_named names [] h = absurd (cc)
path_named names (name ∷ path) h = some_name (record { 0 = number_of names name }) (path_of (with_name names name) path)

named_path : (w : List ℕ) (path names : List (List ℕ)) → IsNamedPath w path → has_name (path_of names path) ≡ true
named_path w path names h =
    let some : has_names (names_in w) ≡ true = and_right (is_path w) (has_names (names_in w)) h.1.2 in
    let P : List (List ℕ) → Type 0 = λ t. has_names t ≡ true in
    path_named names path (subst P (ap names_in h.1.0 ∙ h.2) some)

command_named : (line : List ℕ) (words : Words) (path : List (List ℕ)) (w : Action) → IsCommand line path w → has_its_name (command_of words path w) ≡ true
command_named line words path Create h = named_path h.0 path words.names h.1
command_named line words path Mkdir h = named_path h.0 path words.names h.1
command_named line words path Unlink h = named_path h.0 path words.names h.1
command_named line words path Rmdir h = named_path h.0 path words.names h.1
command_named line words path (Rename to) h =
    let names : List (List ℕ) = with_names words.names path in
    let first : has_name (path_of words.names path) ≡ true = named_path h.1.0 path words.names h.1.2 in
    let second : has_name (path_of names to) ≡ true = named_path h.1.3.0 to names h.1.3.1 in
    rw (first, second) refl
command_named line words path w h = refl

script_more : (n m : ℕ) (script : List PlanCommand) → n ≤ m → IsScript n script → IsScript m script
script_more n m script l k = (let few = k.0 in omega (arith, l, few), k.1)

scripts_next : (before : List Said) (line : List ℕ) (s : Said) → IsSaid line s → All (IsScript (count_by is_command before)) (plan_of before).clients → All (IsScript (count_by is_command (s ∷ before))) (plan_of (s ∷ before)).clients
scripts_next before line (Client i) said h =
    let n : ℕ = count_by is_command before in
    let m : ℕ = count_by is_command (Client i ∷ before) in
    let l : n ≤ m = omega (arith, count-cons is_command (Client i) before) in
    All-push (IsScript m) (plan_of before).clients [] (All-weaker (IsScript n) (IsScript m) (λ script k. script_more n m script l k) (plan_of before).clients h) (omega arith, All-nil _)
scripts_next before line (Command path w) said h =
    let n : ℕ = count_by is_command before in
    let m : ℕ = count_by is_command (Command path w ∷ before) in
    let c : PlanCommand = command_of (plan_of before).words path w in
    let l : m ≡ 1 + n = count-cons is_command (Command path w) before in
    onto_last-All (IsScript n) (IsScript m) c (plan_of before).clients h (λ script k. script_more n m script (omega (arith, l)) k)
    (λ script k. (let few = k.0 in omega (arith, l, few, length-append script (c ∷ [])), All-push (λ command. has_its_name command ≡ true) script c k.1 (command_named line (plan_of before).words path w said)))
scripts_next before line s said h =
    let n : ℕ = count_by is_command before in
    let m : ℕ = count_by is_command (s ∷ before) in
    let l : n ≤ m = omega (arith, count-cons is_command s before) in
    All-weaker (IsScript n) (IsScript m) (λ script k. script_more n m script l k) (plan_of before).clients h

-- ---- what names bricks and actors
brick_below : (before : List Said) (brick n : ℕ) → lacks_brick before brick ≡ false → bricks_of before ≤ n → brick < n
brick_below before brick n o l = let low : brick < bricks_of before = grind (arith, nat_tests, o) in omega (arith, low, l)

rounds_next : (before : List Said) (s : Said) → may_stand before s ≡ true → is_disordered before s ≡ false → (level before < 4 → IsBare (plan_of before)) → bricks_of before ≤ (plan_of before).shape.n
    → All (AreRunnableRounds (plan_of before).shape.n) (plan_of before).healers → All (AreRunnableRounds (plan_of (s ∷ before)).shape.n) (plan_of (s ∷ before)).healers
rounds_next before (Volume v shape) m o bare bricks h = rw (bare (in_head before (Volume v shape) (omega arith) m)).0 (All-nil (AreRunnableRounds shape.n))
rounds_next before (Healer j) m o bare bricks h = All-push (AreRunnableRounds (plan_of before).shape.n) (plan_of before).healers [] h (All-nil _)
rounds_next before (Round brick) m o bare bricks h =
    let n : ℕ = (plan_of before).shape.n in
    let b : BrickId = record { 0 = brick } in
    onto_last-All (AreRunnableRounds n) (AreRunnableRounds n) b (plan_of before).healers h (λ rounds k. k) (λ rounds k. All-push (λ (x : BrickId). x.0 < n) rounds b k (brick_below before brick n o bricks))
rounds_next before s m o bare bricks h = h

one_more : (c d e f a : ℕ) → c ≤ d → e ≤ f → IsOneOf c e a → IsOneOf d f a
one_more c d e f a l m (inl h) = let low = h.0 in let high = h.1 in inl (low, omega (arith, l, high))
one_more c d e f a l m (inr h) = let low = h.0 in let high = h.1 in inr (low, omega (arith, m, high))

about_more : (n c d e f : ℕ) (happened : Event) → c ≤ d → e ≤ f → IsAboutVolume n c e happened → IsAboutVolume n d f happened
about_more n c d e f (event.Stop b) l m h = h
about_more n c d e f (event.Start b) l m h = h
about_more n c d e f (event.Cut a b) l m h = (one_more c d e f a.0 l m h.0, h.1)
about_more n c d e f (event.Join a b) l m h = (one_more c d e f a.0 l m h.0, h.1)
about_more n c d e f (event.Kill a) l m h = one_more c d e f a.0 l m h

abbrev IsPlannedEvent : ℕ → ℕ → ℕ → PlannedEvent → Type 0
IsPlannedEvent n c e planned = IsAboutVolume n c e planned.event

abbrev IsOrder : ℕ → ℕ → Order → Type 0
IsOrder c e order = IsOneOf c e order.actor.0

who_is_one : (before : List Said) (who : Who) (c e : ℕ) → lacks_who before who ≡ false → c ≡ count_by is_client before → e ≡ count_by is_healer before → IsOneOf c e (actor_of who).0
who_is_one before (OfClient i) c e o l m =
    let p = or_parts (i == 0) (nat_lt (count_by is_client before) i) o in
    let low = p.0 in
    let high = p.1 in
    let some : 1 ≤ i = grind (arith, nat_tests, low) in
    let few : i ≤ count_by is_client before = grind (arith, nat_tests, high) in
    inl (some, omega (arith, few, l))
who_is_one before (OfHealer j) c e o l m =
    let p = or_parts (j == 0) (nat_lt (count_by is_healer before) j) o in
    let low = p.0 in
    let high = p.1 in
    let some : 1 ≤ j = grind (arith, nat_tests, low) in
    let few : j ≤ count_by is_healer before = grind (arith, nat_tests, high) in
    inr (omega (arith, some), omega (arith, few, m))

about_volume : (before : List Said) (happening : Happening) (n c e : ℕ) → is_event_disordered before happening ≡ false → bricks_of before ≤ n → c ≡ count_by is_client before → e ≡ count_by is_healer before → IsAboutVolume n c e (event_of happening)
about_volume before (Stop brick) n c e o b l m = brick_below before brick n o b
about_volume before (Start brick) n c e o b l m = brick_below before brick n o b
about_volume before (Cut who brick) n c e o b l m =
    let p = or_parts (lacks_who before who) (lacks_brick before brick) o in (who_is_one before who c e p.0 l m, brick_below before brick n p.1 b)
about_volume before (Join who brick) n c e o b l m =
    let p = or_parts (lacks_who before who) (lacks_brick before brick) o in (who_is_one before who c e p.0 l m, brick_below before brick n p.1 b)
about_volume before (Kill who) n c e o b l m = who_is_one before who c e o l m

events_next : (before : List Said) (s : Said) → may_stand before s ≡ true → is_disordered before s ≡ false → (level before < 4 → IsBare (plan_of before)) → bricks_of before ≤ (plan_of before).shape.n
    → length (plan_of before).clients ≡ count_by is_client before → length (plan_of before).healers ≡ count_by is_healer before
    → All (IsPlannedEvent (plan_of before).shape.n (length (plan_of before).clients) (length (plan_of before).healers)) (plan_of before).events
    → All (IsPlannedEvent (plan_of (s ∷ before)).shape.n (length (plan_of (s ∷ before)).clients) (length (plan_of (s ∷ before)).healers)) (plan_of (s ∷ before)).events
events_next before (Volume v shape) m o bare bricks c e h = rw (bare (in_head before (Volume v shape) (omega arith) m)).1 (All-nil (IsPlannedEvent shape.n (length (plan_of before).clients) (length (plan_of before).healers)))
events_next before (Client i) m o bare bricks c e h =
    let p : Plan = plan_of before in
    let d : ℕ = length (p.clients ++ [] ∷ []) in
    let l : length p.clients ≤ d = omega (arith, length-append p.clients ([] ∷ [])) in
    All-weaker (IsPlannedEvent p.shape.n (length p.clients) (length p.healers)) (IsPlannedEvent p.shape.n d (length p.healers)) (λ x k. about_more p.shape.n (length p.clients) d (length p.healers) (length p.healers) x.event l (omega arith) k) p.events h
events_next before (Command path w) m o bare bricks c e h =
    let p : Plan = plan_of before in
    let d : ℕ = length (onto_last (command_of p.words path w) p.clients) in
    let l : length p.clients ≤ d = omega (arith, length-onto_last (command_of p.words path w) p.clients) in
    All-weaker (IsPlannedEvent p.shape.n (length p.clients) (length p.healers)) (IsPlannedEvent p.shape.n d (length p.healers)) (λ x k. about_more p.shape.n (length p.clients) d (length p.healers) (length p.healers) x.event l (omega arith) k) p.events h
events_next before (Healer j) m o bare bricks c e h =
    let p : Plan = plan_of before in
    let d : ℕ = length (p.healers ++ [] ∷ []) in
    let l : length p.healers ≤ d = omega (arith, length-append p.healers ([] ∷ [])) in
    All-weaker (IsPlannedEvent p.shape.n (length p.clients) (length p.healers)) (IsPlannedEvent p.shape.n (length p.clients) d) (λ x k. about_more p.shape.n (length p.clients) (length p.clients) (length p.healers) d x.event (omega arith) l k) p.events h
events_next before (Round brick) m o bare bricks c e h =
    let p : Plan = plan_of before in
    let b : BrickId = record { 0 = brick } in
    let d : ℕ = length (onto_last b p.healers) in
    let l : length p.healers ≤ d = omega (arith, length-onto_last b p.healers) in
    All-weaker (IsPlannedEvent p.shape.n (length p.clients) (length p.healers)) (IsPlannedEvent p.shape.n (length p.clients) d) (λ x k. about_more p.shape.n (length p.clients) (length p.clients) (length p.healers) d x.event (omega arith) l k) p.events h
events_next before (At at happening) m o bare bricks c e h =
    let p : Plan = plan_of before in
    let x : PlannedEvent = record { at = at; event = event_of happening } in
    All-push (IsPlannedEvent p.shape.n (length p.clients) (length p.healers)) p.events x h (about_volume before happening p.shape.n (length p.clients) (length p.healers) (or_parts (nat_lt at (last_at before)) (is_event_disordered before happening) o).1 bricks c e)
events_next before s m o bare bricks c e h = h

orders_next : (before : List Said) (s : Said) → is_disordered before s ≡ false → length (plan_of before).clients ≡ count_by is_client before → length (plan_of before).healers ≡ count_by is_healer before
    → All (IsOrder (length (plan_of before).clients) (length (plan_of before).healers)) (plan_of before).go
    → All (IsOrder (length (plan_of (s ∷ before)).clients) (length (plan_of (s ∷ before)).healers)) (plan_of (s ∷ before)).go
orders_next before (Client i) o c e h =
    let p : Plan = plan_of before in
    let d : ℕ = length (p.clients ++ [] ∷ []) in
    let l : length p.clients ≤ d = omega (arith, length-append p.clients ([] ∷ [])) in
    All-weaker (IsOrder (length p.clients) (length p.healers)) (IsOrder d (length p.healers)) (λ x k. one_more (length p.clients) d (length p.healers) (length p.healers) x.actor.0 l (omega arith) k) p.go h
orders_next before (Command path w) o c e h =
    let p : Plan = plan_of before in
    let d : ℕ = length (onto_last (command_of p.words path w) p.clients) in
    let l : length p.clients ≤ d = omega (arith, length-onto_last (command_of p.words path w) p.clients) in
    All-weaker (IsOrder (length p.clients) (length p.healers)) (IsOrder d (length p.healers)) (λ x k. one_more (length p.clients) d (length p.healers) (length p.healers) x.actor.0 l (omega arith) k) p.go h
orders_next before (Healer j) o c e h =
    let p : Plan = plan_of before in
    let d : ℕ = length (p.healers ++ [] ∷ []) in
    let l : length p.healers ≤ d = omega (arith, length-append p.healers ([] ∷ [])) in
    All-weaker (IsOrder (length p.clients) (length p.healers)) (IsOrder (length p.clients) d) (λ x k. one_more (length p.clients) (length p.clients) (length p.healers) d x.actor.0 (omega arith) l k) p.go h
orders_next before (Round brick) o c e h =
    let p : Plan = plan_of before in
    let b : BrickId = record { 0 = brick } in
    let d : ℕ = length (onto_last b p.healers) in
    let l : length p.healers ≤ d = omega (arith, length-onto_last b p.healers) in
    All-weaker (IsOrder (length p.clients) (length p.healers)) (IsOrder (length p.clients) d) (λ x k. one_more (length p.clients) (length p.clients) (length p.healers) d x.actor.0 (omega arith) l k) p.go h
orders_next before (Go who count) o c e h =
    let p : Plan = plan_of before in
    let x : Order = record { actor = actor_of who; count = count } in
    All-push (IsOrder (length p.clients) (length p.healers)) p.go x h (who_is_one before who (length p.clients) (length p.healers) o c e)
orders_next before s o c e h = h

-- ---- all lines
-- what the plan is like that some lines give
record Runs (before : List Said) : Type 0 where
  shape : IsRunnableShape (plan_of before).shape
  bricks : bricks_of before ≤ (plan_of before).shape.n
  files : (plan_of before).files ≤ 1000
  names : (plan_of before).files ≤ length (plan_of before).words.names
  turns : (plan_of before).turns ≤ 4000000
  some_turns : level before ≡ 4 → 1 ≤ (plan_of before).turns
  bare : level before < 4 → IsBare (plan_of before)
  clients : length (plan_of before).clients ≡ count_by is_client before
  few_clients : length (plan_of before).clients ≤ 16
  healers : length (plan_of before).healers ≡ count_by is_healer before
  few_healers : length (plan_of before).healers ≤ 3
  commands : count_by is_command before ≤ 16384
  scripts : All (IsScript (count_by is_command before)) (plan_of before).clients
  rounds : All (AreRunnableRounds (plan_of before).shape.n) (plan_of before).healers
  events : All (IsPlannedEvent (plan_of before).shape.n (length (plan_of before).clients) (length (plan_of before).healers)) (plan_of before).events
  go : All (IsOrder (length (plan_of before).clients) (length (plan_of before).healers)) (plan_of before).go

no_lines : Runs []
no_lines = record {
  shape = inl refl;
  bricks = omega arith;
  files = omega arith;
  names = omega arith;
  turns = omega arith;
  some_turns = λ l. absurd (omega (arith, l));
  bare = λ l. (refl, refl);
  clients = refl;
  few_clients = omega arith;
  healers = refl;
  few_healers = omega arith;
  commands = omega arith;
  scripts = All-nil _;
  rounds = All-nil _;
  events = All-nil _;
  go = All-nil _;
}

one_line : (before : List Said) (line : List ℕ) (s : Said) → IsLine before line s → Runs before → Runs (s ∷ before)
one_line before line s l h = record {
  shape = shape_next before line s l.form h.shape;
  bricks = bricks_next before s h.bricks;
  files = files_next before s l.limits h.files;
  names = names_next before s h.names;
  turns = turns_next before s l.limits h.turns;
  some_turns = some_turns_next before s l.place l.limits h.some_turns;
  bare = bare_next before s l.place h.bare;
  clients = clients_next before s h.clients;
  few_clients = few_clients_next before s l.limits l.order h.clients h.few_clients;
  healers = healers_next before s h.healers;
  few_healers = few_healers_next before s l.limits l.order h.healers h.few_healers;
  commands = commands_next before s l.totals h.commands;
  scripts = scripts_next before line s l.form h.scripts;
  rounds = rounds_next before s l.place l.order h.bare h.bricks h.rounds;
  events = events_next before s l.place l.order h.bare h.bricks h.clients h.healers h.events;
  go = orders_next before s l.order h.clients h.healers h.go;
}

all_lines : (lines : List (List ℕ)) (before all : List Said) → AreLines lines before all → Runs before → (is_over all ≡ true) × Runs all
all_lines [] before all a h = let P : List Said → Type 0 = λ t. (is_over t ≡ true) × Runs t in subst P a.1 (a.0, h)
all_lines (line ∷ lines) before all a h = all_lines lines (a.0 ∷ before) all a.2 (one_line before line a.0 a.1 h)

over_level : (all : List Said) → is_over all ≡ true → level all ≡ 4
over_level [] o = absurd (cc)
over_level (End ∷ older) o = refl
over_level (s ∷ older) o = absurd (cc)

lines_run : (all : List Said) → is_over all ≡ true → Runs all → IsRunnable (plan_of all)
lines_run all o h =
    let n : ℕ = count_by is_command all in
    let most = h.commands in
    let files = h.files in
    record {
      shape = h.shape;
      files = files;
      gfids = omega (arith, files);
      some_turns = h.some_turns (over_level all o);
      turns = h.turns;
      clients = h.few_clients;
      scripts = All-weaker (IsScript n) IsRunnableScript (λ script k. (let few = k.0 in record { few = omega (arith, most, few); commands = k.1 })) (plan_of all).clients h.scripts;
      healers = h.few_healers;
      rounds = h.rounds;
      events = h.events;
      go = h.go;
      names = h.names;
    }

pub spelled_runs : (bytes : List ℕ) (plan : Plan) → Spells bytes plan → IsRunnable plan
spelled_runs bytes plan h =
    let r = all_lines h.1.0 [] h.0 h.1.2 no_lines in
    subst IsRunnable (sym h.2) (lines_run h.0 r.0 r.1)

-- ---- what the volume needs of a shape
pub few_bricks : (plan : Plan) → IsRunnable plan → plan.shape.n ≤ 5
few_bricks plan h = few h.shape
  where
    few : IsRunnableShape plan.shape → plan.shape.n ≤ 5
    few (inl k) = omega (arith, k)
    few (inr k) = let five = k.0 in omega (arith, five)

pub some_bricks : (plan : Plan) → IsRunnable plan → 0 < plan.shape.n
some_bricks plan h = some h.shape
  where
    some : IsRunnableShape plan.shape → 0 < plan.shape.n
    some (inl k) = omega (arith, k)
    some (inr k) = let five = k.0 in omega (arith, five)
