-- The lines of the plan that lines give are those lines, where the first two are in the version that the shape is printed in.
use Rattle.std.proofs.Common.{◌≡◌, ℕ, ◌+◌, ◌-◌, ◌<◌, ◌≤◌, List, [], ◌∷◌, ◌++◌, length, refl, sym, ap, subst, ◌∙◌, arith, Bool, true, false, cond, suc, map, append_assoc, reverse, ◌⊎◌, inl, inr, codes}
use Rattle.std.specs.Prelude.{count_by, nat_lt, nat_le}
use Rattle.std.specs.List.{list_all}
use Rattle.std.proofs.lemmas.Bool.Decides.{nat_tests}
use Rattle.std.proofs.lemmas.List.{append-nil, map-append, reverse-append, length-append}
use Rattle.std.proofs.lemmas.List.Sums.{sum_by-cons}
use Rattle.afr_base.specs.declared.ids.BrickId.{BrickId}
use Rattle.afr_base.specs.declared.ids.Shape.{Shape as TheShape}
use Rattle.afr_plan.specs.declared.command.Command.{Command as PlanCommand}
use Rattle.afr_plan.specs.declared.plan.Plan.{Plan}
use Rattle.afr_plan.specs.declared.plan.Words.{Words}
use Rattle.afr_plan.specs.declared.schedule.Go.{Go as Order}
use Rattle.afr_plan.specs.declared.schedule.PlannedEvent.{PlannedEvent}
use Rattle.afr_plan.specs.declared.schedule.PlannedFault.{PlannedFault}
use Rattle.afr_lines.specs.declared.fault.Fault.{Fault}
use Rattle.afr_plan.specs.declared.version.Version.{Version}
use Rattle.afr_plan.specs.Happening.{Who, OfClient, OfHealer, Happening, Stop, Start, Cut, Join, Kill}
use Rattle.afr_plan.specs.Bytes.{key_byte}
use Rattle.afr_plan.specs.Spelling.{IsKey}
use Rattle.afr_plan.specs.Action.{Action, IsCommand, action_word, Write, Read, Create, Mkdir, Unlink, Rmdir, Ls, Stat, SetAttr, GetAttr, Rename}
use Rattle.afr_plan.specs.Action as action
use Rattle.afr_plan.specs.Said.{Said, IsSaid, Afr, Volume, Files, Turns, Client, Command, Healer, Round, Faulty, At, Go, End}
use Rattle.afr_plan.specs.Rules.{word_of, is_one_of, is_client, is_healer, is_over, is_disordered, is_event_disordered, lacks_who, is_beyond, is_who_beyond, is_event_beyond, is_count_beyond}
use Rattle.afr_plan.specs.PlanOf.{onto_last, command_of, actor_of, event_of, with_line, plan_of}
use Rattle.afr_plan.specs.Spells.{AreLines}
use Rattle.afr_plan_print.specs.PrintedPlan.{said_command, said_round, said_fault, said_who, happening_of, said_event, said_order, head_lines, group_lines, client_lines, healer_lines, plan_lines, version_of}
use Rattle.afr_plan_print.proofs.StageLemmas.{may, stage, rises, in_script, in_rounds}
use Rattle.afr_plan_print.proofs.WordPlaceLemmas.{Within, within_self, within_command, IsWorkAscii, command_found}
use Rattle.afr_plan_print.proofs.PrintedPathLemmas.{ascii, AreAscii, path_ascii, named_path_ascii}
use Rattle.std.proofs.lemmas.Bool.{or_parts, both_ways}

-- ---- groups of lines
group_more : {A : Type 0} (head : ℕ → Said) (line : A → Said) (i : ℕ) (gs : List (List A)) → group_lines head line i (gs ++ [] ∷ []) ≡ group_lines head line i gs ++ head (i + length gs) ∷ []
group_more head line i [] = let e : i ≡ i + 0 = omega arith in ap (λ (n : ℕ). head n ∷ []) e
group_more head line i (g ∷ gs) =
    let e : suc i + length gs ≡ i + suc (length gs) = omega arith in
    ap (λ (t : List Said). head i ∷ (map line g ++ t)) (group_more head line (suc i) gs ∙ ap (λ (n : ℕ). group_lines head line (suc i) gs ++ head n ∷ []) e)
    ∙ ap (λ (t : List Said). head i ∷ t) (sym (append_assoc (map line g) (group_lines head line (suc i) gs) (head (i + suc (length gs)) ∷ [])))

item_more : {A : Type 0} (head : ℕ → Said) (line : A → Said) (i : ℕ) (gs : List (List A)) (x : A) → 0 < length gs → group_lines head line i (onto_last x gs) ≡ group_lines head line i gs ++ line x ∷ []
item_more head line i [] x l = absurd (omega arith)
item_more head line i (g ∷ []) x l =
    ap (λ (t : List Said). head i ∷ t) (append-nil (map line (g ++ x ∷ [])) ∙ map-append line g (x ∷ []) ∙ sym (ap (λ (t : List Said). t ++ line x ∷ []) (append-nil (map line g))))
item_more head line i (g ∷ h ∷ gs) x l =
    ap (λ (t : List Said). head i ∷ (map line g ++ t)) (item_more head line (suc i) (h ∷ gs) x (omega arith))
    ∙ ap (λ (t : List Said). head i ∷ t) (sym (append_assoc (map line g) (group_lines head line (suc i) (h ∷ gs)) (line x ∷ [])))

length-onto_last : {A : Type 0} (x : A) (gs : List (List A)) → length (onto_last x gs) ≡ length gs
length-onto_last x [] = refl
length-onto_last x (g ∷ []) = refl
length-onto_last x (g ∷ h ∷ gs) = ap suc (length-onto_last x (h ∷ gs))

-- ---- parts of a plan
-- six parts, one after the other
abbrev six : List Said → List Said → List Said → List Said → List Said → List Said → List Said
six a b c d e f = a ++ (b ++ (c ++ (d ++ (e ++ f))))

six_more : (a b c d e f t : List Said) → six a b c d e (f ++ t) ≡ six a b c d e f ++ t
six_more a b c d e f t = sym (
    append_assoc a _ t ∙ ap (λ (x : List Said). a ++ x) (append_assoc b _ t ∙ ap (λ (x : List Said). b ++ x) (append_assoc c _ t ∙ ap (λ (x : List Said). c ++ x) (append_assoc d _ t ∙ ap (λ (x : List Said). d ++ x) (append_assoc e f t))))
    )

-- ---- more at the end of a part, where the later parts are empty
sixth_more : (a b c d e f g t r : List Said) → g ≡ f ++ t → six a b c d e f ≡ r → six a b c d e g ≡ r ++ t
sixth_more a b c d e f g t r m q = rw m (six_more a b c d e f t ∙ ap (λ (x : List Said). x ++ t) q)

fifth_more : (a b c d e g f t r : List Said) → f ≡ [] → g ≡ e ++ t → six a b c d e f ≡ r → six a b c d g f ≡ r ++ t
fifth_more a b c d e g f t r n m q =
    let q2 : six a b c d e [] ≡ r = rw n at q in
    rw (n, m) (ap (λ (x : List Said). a ++ (b ++ (c ++ (d ++ x)))) (append-nil (e ++ t)) ∙ six_more a b c d e [] t ∙ ap (λ (x : List Said). x ++ t) q2)

fourth_more : (a b c d g e f t r : List Said) → e ≡ [] → f ≡ [] → g ≡ d ++ t → six a b c d e f ≡ r → six a b c g e f ≡ r ++ t
fourth_more a b c d g e f t r n o m q =
    let q2 : six a b c d [] [] ≡ r = rw (n, o) at q in
    rw (n, o, m) (ap (λ (x : List Said). a ++ (b ++ (c ++ x))) (append-nil (d ++ t)) ∙ six_more a b c d [] [] t ∙ ap (λ (x : List Said). x ++ t) q2)

third_more : (a b c g d e f t r : List Said) → d ≡ [] → e ≡ [] → f ≡ [] → g ≡ c ++ t → six a b c d e f ≡ r → six a b g d e f ≡ r ++ t
third_more a b c g d e f t r k n o m q =
    let q2 : six a b c [] [] [] ≡ r = rw (k, n, o) at q in
    rw (k, n, o, m) (ap (λ (x : List Said). a ++ (b ++ x)) (append-nil (c ++ t)) ∙ six_more a b c [] [] [] t ∙ ap (λ (x : List Said). x ++ t) q2)

second_more : (a b g c d e f t r : List Said) → c ≡ [] → d ≡ [] → e ≡ [] → f ≡ [] → g ≡ b ++ t → six a b c d e f ≡ r → six a g c d e f ≡ r ++ t
second_more a b g c d e f t r j k n o m q =
    let q2 : six a b [] [] [] [] ≡ r = rw (j, k, n, o) at q in
    rw (j, k, n, o, m) (ap (λ (x : List Said). a ++ x) (append-nil (b ++ t)) ∙ six_more a b [] [] [] [] t ∙ ap (λ (x : List Said). x ++ t) q2)

-- the lines of a plan without its end, with words that may be more than its own
abbrev body : Words → Plan → List Said
body words p = six (head_lines p) (client_lines words p.clients) (healer_lines p.healers) (map said_fault p.faults) (map said_event p.events) (map said_order p.go)

-- after the newest line of a plan these are its lines, and the later parts are empty
pub record Shape (newest : Said) (older : List Said) (p : Plan) : Type 0 where
  pub lines : (words : Words) → Within p.words words → body words p ≡ reverse (newest ∷ older)
  pub clients : length p.clients ≡ count_by is_client (newest ∷ older)
  pub healers : length p.healers ≡ count_by is_healer (newest ∷ older)
  pub some_client : stage newest ≡ 1 → 0 < length p.clients
  pub no_healers : stage newest < 2 → p.healers ≡ []
  pub some_healer : stage newest ≡ 2 → 0 < length p.healers
  pub no_faults : stage newest < 3 → p.faults ≡ []
  pub no_events : stage newest < 4 → p.events ≡ []
  pub no_orders : stage newest < 5 → p.go ≡ []

reverse_more : (s : Said) (newest : Said) (older : List Said) → reverse (newest ∷ older) ++ s ∷ [] ≡ reverse (s ∷ newest ∷ older)
reverse_more s newest older = sym (reverse-append (s ∷ []) (newest ∷ older))

client-cons : (x : Said) (xs : List Said) → count_by is_client (x ∷ xs) ≡ cond {A = ℕ} (is_client x) 1 0 + count_by is_client xs
client-cons x xs = sum_by-cons (λ y. cond {A = ℕ} (is_client y) 1 0) x xs

healer-cons : (x : Said) (xs : List Said) → count_by is_healer (x ∷ xs) ≡ cond {A = ℕ} (is_healer x) 1 0 + count_by is_healer xs
healer-cons x xs = sum_by-cons (λ y. cond {A = ℕ} (is_healer y) 1 0) x xs

-- ---- actors and events as they were said
who_again : (before : List Said) (who : Who) → is_who_beyond who ≡ false → lacks_who before who ≡ false → said_who (actor_of who) ≡ who
who_again before (OfClient i) b h = let t : nat_le i 16 ≡ true = grind (arith, nat_tests) in rw t refl
who_again before (OfHealer j) b h =
    let t : nat_le (16 + j) 16 ≡ false = grind (arith, nat_tests) in
    let e : 16 + j - 16 ≡ j = omega arith in
    rw (t, e) refl

happening_again : (before : List Said) (event : Happening) → is_event_beyond event ≡ false → is_event_disordered before event ≡ false → happening_of (event_of event) ≡ event
happening_again before (Stop brick) b h = refl
happening_again before (Start brick) b h = refl
happening_again before (Cut who brick) b h = ap (λ (t : Who). Cut t brick) (who_again before who (or_parts _ _ b).0 (or_parts _ _ h).0)
happening_again before (Join who brick) b h = ap (λ (t : Who). Join t brick) (who_again before who (or_parts _ _ b).0 (or_parts _ _ h).0)
happening_again before (Kill who) b h = ap Kill (who_again before who b h)

-- ---- one line more
module _ (newest : Said) (older : List Said) (p : Plan) (h : Shape newest older p) where
  no_healer_lines : stage newest ≤ 1 → healer_lines p.healers ≡ []
  no_healer_lines l = ap healer_lines (h.no_healers (omega (arith, l)))

  no_fault_lines : stage newest ≤ 2 → map said_fault p.faults ≡ []
  no_fault_lines l = ap (map said_fault) (h.no_faults (omega (arith, l)))

  no_event_lines : stage newest ≤ 3 → map said_event p.events ≡ []
  no_event_lines l = ap (map said_event) (h.no_events (omega (arith, l)))

  no_order_lines : stage newest ≤ 4 → map said_order p.go ≡ []
  no_order_lines l = ap (map said_order) (h.no_orders (omega (arith, l)))

  client_next : (i : ℕ) → may newest (Client i) ≡ true → is_disordered (newest ∷ older) (Client i) ≡ false → Shape (Client i) (newest ∷ older) (with_line (Client i) p)
  client_next i m d =
      let l : stage newest ≤ 1 = rises newest (Client i) m in
      let number : i ≡ count_by is_client (newest ∷ older) + 1 = grind (arith, nat_tests) in
      let same : 1 + length p.clients ≡ i = omega (arith, number, h.clients) in
      let long = length-append p.clients ([] ∷ []) in
      record {
        lines = λ words w.
            second_more (head_lines p) (client_lines words p.clients) (client_lines words (p.clients ++ [] ∷ [])) (healer_lines p.healers) (map said_fault p.faults) (map said_event p.events) (map said_order p.go) (Client i ∷ []) (reverse (newest ∷ older)) (no_healer_lines l) (no_fault_lines (omega (arith, l))) (no_event_lines (omega (arith, l))) (no_order_lines (omega (arith, l)))
            (group_more Client (said_command words) 1 p.clients ∙ ap (λ (n : ℕ). client_lines words p.clients ++ Client n ∷ []) same) (h.lines words w)
            ∙ reverse_more (Client i) newest older;
        clients = omega (arith, h.clients, long, client-cons (Client i) (newest ∷ older));
        healers = omega (arith, h.healers, healer-cons (Client i) (newest ∷ older));
        some_client = λ e. omega (arith, long);
        no_healers = λ k. h.no_healers (omega (arith, l));
        some_healer = λ e. absurd (omega (arith, e));
        no_faults = λ k. h.no_faults (omega (arith, l));
        no_events = λ k. h.no_events (omega (arith, l));
        no_orders = λ k. h.no_orders (omega (arith, l));
      }

  command_next : (path : List (List ℕ)) (w : Action) → AreAscii path → IsWorkAscii w → may newest (Command path w) ≡ true → Shape (Command path w) (newest ∷ older) (with_line (Command path w) p)
  command_next path w a k m =
      let one : stage newest ≡ 1 = in_script newest path w m in
      let l : stage newest ≤ 1 = omega (arith, one) in
      let some = h.some_client one in
      let c : PlanCommand = command_of p.words path w in
      let long : length (onto_last c p.clients) ≡ length p.clients = length-onto_last c p.clients in
      record {
        lines = λ words t.
            second_more (head_lines p) (client_lines words p.clients) (client_lines words (onto_last c p.clients)) (healer_lines p.healers) (map said_fault p.faults) (map said_event p.events) (map said_order p.go) (Command path w ∷ []) (reverse (newest ∷ older)) (no_healer_lines l) (no_fault_lines (omega (arith, l))) (no_event_lines (omega (arith, l))) (no_order_lines (omega (arith, l)))
            (item_more Client (said_command words) 1 p.clients c some ∙ ap (λ (s : Said). client_lines words p.clients ++ s ∷ []) (command_found p.words words path w a k t)) (h.lines words (within_command p.words words path w t))
            ∙ reverse_more (Command path w) newest older;
        clients = omega (arith, h.clients, long, client-cons (Command path w) (newest ∷ older));
        healers = omega (arith, h.healers, healer-cons (Command path w) (newest ∷ older));
        some_client = λ e. omega (arith, long, some);
        no_healers = λ q. h.no_healers (omega (arith, l));
        some_healer = λ e. absurd (omega (arith, e));
        no_faults = λ q. h.no_faults (omega (arith, l));
        no_events = λ q. h.no_events (omega (arith, l));
        no_orders = λ q. h.no_orders (omega (arith, l));
      }

  healer_next : (j : ℕ) → may newest (Healer j) ≡ true → is_disordered (newest ∷ older) (Healer j) ≡ false → Shape (Healer j) (newest ∷ older) (with_line (Healer j) p)
  healer_next j m d =
      let l : stage newest ≤ 2 = rises newest (Healer j) m in
      let number : j ≡ count_by is_healer (newest ∷ older) + 1 = grind (arith, nat_tests) in
      let same : 1 + length p.healers ≡ j = omega (arith, number, h.healers) in
      let long = length-append p.healers ([] ∷ []) in
      record {
        lines = λ words w.
            third_more (head_lines p) (client_lines words p.clients) (healer_lines p.healers) (healer_lines (p.healers ++ [] ∷ [])) (map said_fault p.faults) (map said_event p.events) (map said_order p.go) (Healer j ∷ []) (reverse (newest ∷ older)) (no_fault_lines l) (no_event_lines (omega (arith, l))) (no_order_lines (omega (arith, l)))
            (group_more Healer said_round 1 p.healers ∙ ap (λ (n : ℕ). healer_lines p.healers ++ Healer n ∷ []) same) (h.lines words w)
            ∙ reverse_more (Healer j) newest older;
        clients = omega (arith, h.clients, client-cons (Healer j) (newest ∷ older));
        healers = omega (arith, h.healers, long, healer-cons (Healer j) (newest ∷ older));
        some_client = λ e. absurd (omega (arith, e));
        no_healers = λ k. absurd (omega (arith, k));
        some_healer = λ e. omega (arith, long);
        no_faults = λ k. h.no_faults (omega (arith, l));
        no_events = λ k. h.no_events (omega (arith, l));
        no_orders = λ k. h.no_orders (omega (arith, l));
      }

  round_next : (brick : ℕ) → may newest (Round brick) ≡ true → Shape (Round brick) (newest ∷ older) (with_line (Round brick) p)
  round_next brick m =
      let two : stage newest ≡ 2 = in_rounds newest brick m in
      let l : stage newest ≤ 2 = omega (arith, two) in
      let some = h.some_healer two in
      let b : BrickId = record { 0 = brick } in
      let long : length (onto_last b p.healers) ≡ length p.healers = length-onto_last b p.healers in
      record {
        lines = λ words w.
            third_more (head_lines p) (client_lines words p.clients) (healer_lines p.healers) (healer_lines (onto_last b p.healers)) (map said_fault p.faults) (map said_event p.events) (map said_order p.go) (Round brick ∷ []) (reverse (newest ∷ older)) (no_fault_lines l) (no_event_lines (omega (arith, l))) (no_order_lines (omega (arith, l)))
            (item_more Healer said_round 1 p.healers b some) (h.lines words w)
            ∙ reverse_more (Round brick) newest older;
        clients = omega (arith, h.clients, client-cons (Round brick) (newest ∷ older));
        healers = omega (arith, h.healers, long, healer-cons (Round brick) (newest ∷ older));
        some_client = λ e. absurd (omega (arith, e));
        no_healers = λ k. absurd (omega (arith, k));
        some_healer = λ e. omega (arith, long, some);
        no_faults = λ k. h.no_faults (omega (arith, l));
        no_events = λ k. h.no_events (omega (arith, l));
        no_orders = λ k. h.no_orders (omega (arith, l));
      }

  fault_next : (brick at : ℕ) (fault : Fault) → may newest (Faulty brick at fault) ≡ true → Shape (Faulty brick at fault) (newest ∷ older) (with_line (Faulty brick at fault) p)
  fault_next brick at fault m =
      let l : stage newest ≤ 3 = rises newest (Faulty brick at fault) m in
      let x : PlannedFault = record { brick = record { 0 = brick }; at = at; fault = fault } in
      record {
        lines = λ words w.
            fourth_more (head_lines p) (client_lines words p.clients) (healer_lines p.healers) (map said_fault p.faults) (map said_fault (p.faults ++ x ∷ [])) (map said_event p.events) (map said_order p.go) (Faulty brick at fault ∷ []) (reverse (newest ∷ older)) (no_event_lines l) (no_order_lines (omega (arith, l)))
            (map-append said_fault p.faults (x ∷ [])) (h.lines words w)
            ∙ reverse_more (Faulty brick at fault) newest older;
        clients = omega (arith, h.clients, client-cons (Faulty brick at fault) (newest ∷ older));
        healers = omega (arith, h.healers, healer-cons (Faulty brick at fault) (newest ∷ older));
        some_client = λ e. absurd (omega (arith, e));
        no_healers = λ k. absurd (omega (arith, k));
        some_healer = λ e. absurd (omega (arith, e));
        no_faults = λ k. absurd (omega (arith, k));
        no_events = λ k. h.no_events (omega (arith, l));
        no_orders = λ k. h.no_orders (omega (arith, l));
      }

  event_next : (at : ℕ) (event : Happening) → may newest (At at event) ≡ true → is_event_beyond event ≡ false → is_event_disordered (newest ∷ older) event ≡ false → Shape (At at event) (newest ∷ older) (with_line (At at event) p)
  event_next at event m b d =
      let l : stage newest ≤ 4 = rises newest (At at event) m in
      let x : PlannedEvent = record { at = at; event = event_of event } in
      record {
        lines = λ words w.
            fifth_more (head_lines p) (client_lines words p.clients) (healer_lines p.healers) (map said_fault p.faults) (map said_event p.events) (map said_event (p.events ++ x ∷ [])) (map said_order p.go) (At at event ∷ []) (reverse (newest ∷ older)) (no_order_lines l)
            (map-append said_event p.events (x ∷ []) ∙ ap (λ (e : Happening). map said_event p.events ++ At at e ∷ []) (happening_again (newest ∷ older) event b d)) (h.lines words w)
            ∙ reverse_more (At at event) newest older;
        clients = omega (arith, h.clients, client-cons (At at event) (newest ∷ older));
        healers = omega (arith, h.healers, healer-cons (At at event) (newest ∷ older));
        some_client = λ e. absurd (omega (arith, e));
        no_healers = λ k. absurd (omega (arith, k));
        some_healer = λ e. absurd (omega (arith, e));
        no_faults = λ k. absurd (omega (arith, k));
        no_events = λ k. absurd (omega (arith, k));
        no_orders = λ k. h.no_orders (omega (arith, l));
      }

  order_next : (who : Who) (count : ℕ) → may newest (Go who count) ≡ true → is_who_beyond who ≡ false → lacks_who (newest ∷ older) who ≡ false → Shape (Go who count) (newest ∷ older) (with_line (Go who count) p)
  order_next who count m b d =
      let x : Order = record { actor = actor_of who; count = count } in
      record {
        lines = λ words w.
            sixth_more (head_lines p) (client_lines words p.clients) (healer_lines p.healers) (map said_fault p.faults) (map said_event p.events) (map said_order p.go) (map said_order (p.go ++ x ∷ [])) (Go who count ∷ []) (reverse (newest ∷ older))
            (map-append said_order p.go (x ∷ []) ∙ ap (λ (t : Who). map said_order p.go ++ Go t count ∷ []) (who_again (newest ∷ older) who b d)) (h.lines words w)
            ∙ reverse_more (Go who count) newest older;
        clients = omega (arith, h.clients, client-cons (Go who count) (newest ∷ older));
        healers = omega (arith, h.healers, healer-cons (Go who count) (newest ∷ older));
        some_client = λ e. absurd (omega (arith, e));
        no_healers = λ k. absurd (omega (arith, k));
        some_healer = λ e. absurd (omega (arith, e));
        no_faults = λ k. absurd (omega (arith, k));
        no_events = λ k. absurd (omega (arith, k));
        no_orders = λ k. absurd (omega (arith, k));
      }

-- the words of a line are ASCII
abbrev IsSaidAscii : Said → Type 0
IsSaidAscii (Command path w) = AreAscii path × IsWorkAscii w
IsSaidAscii s = Unit {0}

-- a line more, which may follow the newest, is within the limits and in order
shape_more : (newest : Said) (older : List Said) (p : Plan) (s : Said) → Shape newest older p → may newest s ≡ true → is_beyond s ≡ false → is_disordered (newest ∷ older) s ≡ false → IsSaidAscii s → 1 ≤ stage s → (s ≡ End → ⊥) → Shape s (newest ∷ older) (with_line s p)
shape_more newest older p (Client i) h m b d a l n = client_next newest older p h i m d
shape_more newest older p (Command path w) h m b d a l n = command_next newest older p h path w a.0 a.1 m
shape_more newest older p (Healer j) h m b d a l n = healer_next newest older p h j m d
shape_more newest older p (Round brick) h m b d a l n = round_next newest older p h brick m
shape_more newest older p (Faulty brick at fault) h m b d a l n = fault_next newest older p h brick at fault m
shape_more newest older p (At at event) h m b d a l n = event_next newest older p h at event m (or_parts (nat_lt 4000000 at) (is_event_beyond event) b).1 (or_parts _ (is_event_disordered (newest ∷ older) event) d).1
shape_more newest older p (Go who count) h m b d a l n = order_next newest older p h who count m (or_parts (is_who_beyond who) (is_count_beyond count) b).0 d
shape_more newest older p End h m b d a l n = absurd (n refl)
shape_more newest older p s h m b d a l n = absurd (omega (arith, l))

-- ---- the lines of a whole plan
key_ascii : (key : List ℕ) → list_all key_byte key ≡ true → list_all ascii key ≡ true
key_ascii [] h = refl
key_ascii (b ∷ key) h =
    let one : ascii b ≡ true = grind (arith, nat_tests) in
    let more : list_all key_byte key ≡ true = grind (arith, nat_tests) in
    rw (one, key_ascii key more) refl

word_ascii : (w key : List ℕ) → IsKey w key → list_all ascii key ≡ true
word_ascii w key h = let P : List ℕ → Type 0 = λ t. list_all ascii t ≡ true in subst P h.0 (key_ascii w h.1)

work_ascii : (line : List ℕ) (path : List (List ℕ)) (w : Action) → IsCommand line path w → AreAscii path × IsWorkAscii w
work_ascii line path (Write at bytes) h = (path_ascii h.1.0 path h.1.2, tt)
work_ascii line path (action.Cut len) h = (path_ascii h.1.0 path h.1.2, tt)
work_ascii line path (Read at len) h = (path_ascii h.1.0 path h.1.2, tt)
work_ascii line path Create h = (named_path_ascii h.0 path h.1, tt)
work_ascii line path Mkdir h = (named_path_ascii h.0 path h.1, tt)
work_ascii line path Unlink h = (named_path_ascii h.0 path h.1, tt)
work_ascii line path Rmdir h = (named_path_ascii h.0 path h.1, tt)
work_ascii line path Ls h = (path_ascii h.0 path h.1, tt)
work_ascii line path Stat h = (path_ascii h.0 path h.1, tt)
work_ascii line path (SetAttr key value) h = (path_ascii h.1.0 path h.1.2, (word_ascii h.1.3.1.0 key h.1.3.1.2, word_ascii h.1.3.1.3.0 value h.1.3.1.3.1))
work_ascii line path (GetAttr key) h = (path_ascii h.1.0 path h.1.2, word_ascii h.1.3.0 key h.1.3.1)
work_ascii line path (Rename to) h = (named_path_ascii h.1.0 path h.1.2, named_path_ascii h.1.3.0 to h.1.3.1)

said_ascii : (line : List ℕ) (s : Said) → IsSaid line s → IsSaidAscii s
said_ascii line (Command path w) h = work_ascii line path w h
said_ascii line s h = tt

is_end : (s : Said) → (s ≡ End) ⊎ (s ≡ End → ⊥)
is_end End = inl refl
is_end s = inr (λ e. cc)

at_end : (lines : List (List ℕ)) (before all : List Said) → AreLines lines (End ∷ before) all → End ∷ before ≡ all
at_end [] before all h = h.1
at_end (line ∷ lines) before all h = absurd (let e : false ≡ true = h.1.place in (cc))

not_over : (newest : Said) (older : List Said) → (newest ≡ End → ⊥) → is_over (newest ∷ older) ≡ false
not_over End older n = absurd (n refl)
not_over s older n = refl

-- the lines of a plan are its body and its end
body_end : (p : Plan) → plan_lines p ≡ body p.words p ++ End ∷ []
body_end p = six_more (head_lines p) (client_lines p.words p.clients) (healer_lines p.healers) (map said_fault p.faults) (map said_event p.events) (map said_order p.go) (End ∷ [])

pub lines_from : (lines : List (List ℕ)) (newest : Said) (older all : List Said) → (newest ≡ End → ⊥) → ((s : Said) → may newest s ≡ true → 1 ≤ stage s) → Shape newest older (plan_of (newest ∷ older)) → AreLines lines (newest ∷ older) all
    → plan_lines (plan_of all) ≡ reverse all
lines_from [] newest older all n k h a = absurd (let e : false ≡ true = sym (not_over newest older n) ∙ a.0 in (cc))
lines_from (line ∷ lines) newest older all n k h a =
    let s = a.0 in
    let m : may newest s ≡ true = a.1.place in
    let l = k s m in
    step (is_end s)
    (λ other. lines_from lines s (newest ∷ older) all other (λ t q. omega (arith, l, rises s t q)) (shape_more newest older (plan_of (newest ∷ older)) s h m a.1.limits a.1.order (said_ascii line s a.1.form) l other) a.2)
  where
    step : (a.0 ≡ End) ⊎ (a.0 ≡ End → ⊥) → ((a.0 ≡ End → ⊥) → plan_lines (plan_of all) ≡ reverse all) → plan_lines (plan_of all) ≡ reverse all
    step (inr other) later = later other
    step (inl e) later =
        let P : Said → Type 0 = λ s. AreLines lines (s ∷ newest ∷ older) all in
        let f : End ∷ newest ∷ older ≡ all = at_end lines (newest ∷ older) all (subst P e a.2) in
        let p : Plan = plan_of (newest ∷ older) in
        let g : plan_lines p ≡ reverse (End ∷ newest ∷ older) = body_end p ∙ ap (λ (t : List Said). t ++ End ∷ []) (h.lines p.words (within_self p.words)) ∙ reverse_more End newest older in
        let Q : List Said → Type 0 = λ t. plan_lines (plan_of t) ≡ reverse t in
        subst Q f g

-- ---- the first four lines
abbrev pub is_word : Said → List ℕ → Bool
is_word s w = is_one_of (w ∷ []) (word_of s)

no_head_work : (w : Action) → (is_one_of (codes "afr" ∷ []) (action_word w) ≡ false) × (is_one_of (codes "volume" ∷ []) (action_word w) ≡ false) × (is_one_of (codes "files" ∷ []) (action_word w) ≡ false) × (is_one_of (codes "turns" ∷ []) (action_word w) ≡ false)
no_head_work (Write at bytes) = (refl, refl, refl, refl)
no_head_work w = (refl, refl, refl, refl)

pub is_afr : (s : Said) → is_word s (codes "afr") ≡ true → (version : Version) × (s ≡ Afr version)
is_afr (Afr version) h = (version, refl)
is_afr (Command path w) h = absurd (both_ways _ (no_head_work w).0 h)
is_afr s h = absurd (cc)

pub is_volume : (s : Said) → is_word s (codes "volume") ≡ true → (version : Version) × (shape : TheShape) × (s ≡ Volume version shape)
is_volume (Volume version shape) h = (version, shape, refl)
is_volume (Command path w) h = absurd (both_ways _ (no_head_work w).1 h)
is_volume s h = absurd (cc)

pub is_files : (s : Said) → is_word s (codes "files") ≡ true → (k : ℕ) × (s ≡ Files k)
is_files (Files k) h = (k, refl)
is_files (Command path w) h = absurd (both_ways _ (no_head_work w).2 h)
is_files s h = absurd (cc)

pub is_turns : (s : Said) → is_word s (codes "turns") ≡ true → (t : ℕ) × (s ≡ Turns t)
is_turns (Turns t) h = (t, refl)
is_turns (Command path w) h = absurd (both_ways _ (no_head_work w).3 h)
is_turns s h = absurd (cc)

-- the lines of a plan so far, in the version that its shape is printed in
abbrev pub heads : ℕ → TheShape → List Said
heads k shape = Files k ∷ Volume (version_of shape) shape ∷ Afr (version_of shape) ∷ []

pub head_shape : (t k : ℕ) (shape : TheShape) → Shape (Turns t) (heads k shape) (plan_of (Turns t ∷ heads k shape))
head_shape t k shape = record {
  lines = λ words w. refl;
  clients = refl;
  healers = refl;
  some_client = λ e. absurd (omega (arith, e));
  no_healers = λ l. refl;
  some_healer = λ e. absurd (omega (arith, e));
  no_faults = λ l. refl;
  no_events = λ l. refl;
  no_orders = λ l. refl;
}
