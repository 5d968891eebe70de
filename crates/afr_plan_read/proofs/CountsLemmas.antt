-- What is kept beside the lines stays true with one line more.
use Rattle.std.proofs.Common.{◌≡◌, ℕ, ◌+◌, ◌≤◌, ◌<◌, List, [], ◌∷◌, ◌++◌, length, refl, ap, ◌∙◌, arith, Bool, true, false, cond, ◌||◌, map, reverse}
use Rattle.std.specs.Prelude.{count_by, sum_by}
use Rattle.std.specs.List.{list_any}
use Rattle.std.proofs.lemmas.Bool.Decides.{nat_tests}
use Rattle.std.proofs.lemmas.List.{map-append, reverse-append}
use Rattle.std.proofs.lemmas.List.Sums.{sum_by-cons}
use Rattle.afr_plan_read.specs.Counts.{counted, head_lines, IsCounted}
use Rattle.afr_plan.specs.Rules.{may_stand, bricks_of, is_client, is_command, is_listing, is_healer, is_round, is_fault, is_event, is_order, last_at, write_end, read_len, is_beyond, is_disordered, passes_total, is_fault_of}
use Rattle.afr_plan.specs.Said.{Said, Afr, Volume, Files, Turns, Client, Command, Healer, Round, Faulty, At, Go, End}
use Rattle.afr_plan.specs.Action.{Action}
use Rattle.afr_plan.specs.Action as action
use Rattle.std.proofs.lemmas.List.Folds.{list_any-append}
use Rattle.afr_plan_read.specs.FaultPlaces.{is_place, place_at, ArePlaces, with_place}
use Rattle.afr_plan_line.specs.Seen.{seen}
use Rattle.afr_plan_read.specs.declared.order.FaultPlace.{FaultPlace}
use Rattle.afr_plan_line.specs.declared.spoken.Spoken.{Spoken}
use Rattle.afr_plan_read.specs.declared.totals.LineCounts.{LineCounts}

abbrev one : Bool → ℕ
one b = cond b 1 0

abbrev position_of : Said → ℕ → ℕ
position_of (At at event) old = at
position_of s old = old

abbrev bricks_with : Said → ℕ → ℕ
bricks_with (Volume version shape) old = shape.n
bricks_with s old = old

-- each count rises by what the line adds
record Adds (s : Said) (c d : LineCounts) : Type 0 where
  bricks : d.bricks ≡ bricks_with s c.bricks
  clients : d.clients ≡ one (is_client s) + c.clients
  commands : d.commands ≡ one (is_command s) + c.commands
  listings : d.listings ≡ one (is_listing s) + c.listings
  healers : d.healers ≡ one (is_healer s) + c.healers
  rounds : d.rounds ≡ one (is_round s) + c.rounds
  faults : d.faults ≡ one (is_fault s) + c.faults
  events : d.events ≡ one (is_event s) + c.events
  orders : d.orders ≡ one (is_order s) + c.orders
  last_at : d.last_at ≡ position_of s c.last_at
  ends : d.ends ≡ write_end s + c.ends
  lengths : d.lengths ≡ read_len s + c.lengths

adds_work : (path : List (List ℕ)) (w : Action) (c : LineCounts) → Adds (Command path w) c (counted (Command path w) c)
adds_work path (action.Write at bytes) c = grind arith
adds_work path (action.Read at len) c = grind arith
adds_work path action.Ls c = grind arith
adds_work path w c = grind arith

adds : (s : Said) (c : LineCounts) → Adds s c (counted s c)
adds (Volume version shape) c = grind arith
adds (Client i) c = grind arith
adds (Command path w) c = adds_work path w c
adds (Healer j) c = grind arith
adds (Round brick) c = grind arith
adds (Faulty brick at fault) c = grind arith
adds (At at event) c = grind arith
adds (Go who count) c = grind arith
adds s c = grind arith

-- ---- totals that aren't passed
few_clients : (before : List Said) (s : Said) (c : ℕ) → c ≡ count_by is_client before → c ≤ 16 → is_beyond s ≡ false → is_disordered before s ≡ false → one (is_client s) + c ≤ 16
few_clients before (Client i) c e l b o = let next : i ≡ count_by is_client before + 1 = grind (arith, nat_tests) in let small : i ≤ 16 = grind (arith, nat_tests) in omega (arith, e, next, small)
few_clients before s c e l b o = omega (arith, l)

few_healers : (before : List Said) (s : Said) (c : ℕ) → c ≡ count_by is_healer before → c ≤ 3 → is_beyond s ≡ false → is_disordered before s ≡ false → one (is_healer s) + c ≤ 3
few_healers before (Healer i) c e l b o = let next : i ≡ count_by is_healer before + 1 = grind (arith, nat_tests) in let small : i ≤ 3 = grind (arith, nat_tests) in omega (arith, e, next, small)
few_healers before s c e l b o = omega (arith, l)

few_commands : (before : List Said) (s : Said) (c : ℕ) → c ≡ count_by is_command before → c ≤ 16384 → passes_total before s ≡ false → one (is_command s) + c ≤ 16384
few_commands before (Command path w) c e l t = let few : count_by is_command before < 16384 = grind (arith, nat_tests) in omega (arith, e, few)
few_commands before s c e l t = omega (arith, l)

few_rounds : (before : List Said) (s : Said) (c : ℕ) → c ≡ count_by is_round before → c ≤ 1024 → passes_total before s ≡ false → one (is_round s) + c ≤ 1024
few_rounds before (Round brick) c e l t = let few : count_by is_round before < 1024 = grind (arith, nat_tests) in omega (arith, e, few)
few_rounds before s c e l t = omega (arith, l)

few_faults : (before : List Said) (s : Said) (c : ℕ) → c ≡ count_by is_fault before → c ≤ 1024 → passes_total before s ≡ false → one (is_fault s) + c ≤ 1024
few_faults before (Faulty brick at fault) c e l t = let few : count_by is_fault before < 1024 = grind (arith, nat_tests) in omega (arith, e, few)
few_faults before s c e l t = omega (arith, l)

few_events : (before : List Said) (s : Said) (c : ℕ) → c ≡ count_by is_event before → c ≤ 1024 → passes_total before s ≡ false → one (is_event s) + c ≤ 1024
few_events before (At at event) c e l t = let few : count_by is_event before < 1024 = grind (arith, nat_tests) in omega (arith, e, few)
few_events before s c e l t = omega (arith, l)

few_orders : (before : List Said) (s : Said) (c : ℕ) → c ≡ count_by is_order before → c ≤ 1024 → passes_total before s ≡ false → one (is_order s) + c ≤ 1024
few_orders before (Go who count) c e l t = let few : count_by is_order before < 1024 = grind (arith, nat_tests) in omega (arith, e, few)
few_orders before s c e l t = omega (arith, l)

few_listings : (before : List Said) (s : Said) (c : ℕ) → c ≡ count_by is_listing before → c ≤ 256 → passes_total before s ≡ false → one (is_listing s) + c ≤ 256
few_listings before (Command path action.Ls) c e l t = let few : count_by is_listing before < 256 = grind (arith, nat_tests) in omega (arith, e, few)
few_listings before (Command path w) c e l t = omega (arith, l)
few_listings before s c e l t = omega (arith, l)

few_ends : (before : List Said) (s : Said) (c : ℕ) → c ≡ sum_by write_end before → c ≤ 268435456 → passes_total before s ≡ false → write_end s + c ≤ 268435456
few_ends before (Command path (action.Write at bytes)) c e l t = let few : sum_by write_end before + (at + length bytes) ≤ 268435456 = grind (arith, nat_tests) in omega (arith, e, few)
few_ends before (Command path w) c e l t = omega (arith, l)
few_ends before s c e l t = omega (arith, l)

few_lengths : (before : List Said) (s : Said) (c : ℕ) → c ≡ sum_by read_len before → c ≤ 67108864 → passes_total before s ≡ false → read_len s + c ≤ 67108864
few_lengths before (Command path (action.Read at len)) c e l t = let few : sum_by read_len before + len ≤ 67108864 = grind (arith, nat_tests) in omega (arith, e, few)
few_lengths before (Command path w) c e l t = omega (arith, l)
few_lengths before s c e l t = omega (arith, l)

-- ---- how many lines there are
abbrev is_head : Said → Bool
is_head (Afr version) = true
is_head (Volume version shape) = true
is_head (Files k) = true
is_head (Turns t) = true
is_head End = true
is_head s = false

heads : (s : Said) (before : List Said) → may_stand before s ≡ true → one (is_head s) + head_lines before ≤ head_lines (s ∷ before)
heads (Afr v) [] h = omega arith
heads (Afr v) (Afr w ∷ older) h = absurd (cc)
heads (Afr v) (newest ∷ older) h = absurd (cc)
heads (Volume v shape) (Afr w ∷ older) h = omega arith
heads (Volume v shape) before h = absurd (cc)
heads (Files k) (Volume v shape ∷ older) h = omega arith
heads (Files k) before h = absurd (cc)
heads (Turns t) (Files k ∷ older) h = omega arith
heads (Turns t) before h = absurd (cc)
heads s (End ∷ older) h = absurd (cc)
heads s before h = omega arith

lines_more : (before : List Said) (s : Said) (c d : LineCounts) → may_stand before s ≡ true → IsCounted before c → Adds s c d
    → length (s ∷ before) ≤ head_lines (s ∷ before) + d.clients + d.commands + d.healers + d.rounds + d.faults + d.events + d.orders
lines_more before s c d place h a =
    let n = heads s before place in
    let one_each : 1 ≤ one (is_head s) + one (is_client s) + one (is_command s) + one (is_healer s) + one (is_round s) + one (is_fault s) + one (is_event s) + one (is_order s) = kinds s in
    omega (arith, n, one_each, h.few_lines, a.clients, a.commands, a.healers, a.rounds, a.faults, a.events, a.orders)
  where
    kinds : (s : Said) → 1 ≤ one (is_head s) + one (is_client s) + one (is_command s) + one (is_healer s) + one (is_round s) + one (is_fault s) + one (is_event s) + one (is_order s)
    kinds (Afr v) = omega arith
    kinds s = omega arith

-- ---- one line more
position-kept : (before : List Said) (s : Said) (c : ℕ) → c ≡ last_at before → position_of s c ≡ last_at (s ∷ before)
position-kept before (At at event) c e = refl
position-kept before s c e = e

bricks-kept : (before : List Said) (s : Said) (c : ℕ) → c ≡ bricks_of before → bricks_with s c ≡ bricks_of (s ∷ before)
bricks-kept before (Volume version shape) c e = refl
bricks-kept before s c e = e

tallied : (p : Said → Bool) (before : List Said) (s : Said) (c d : ℕ) → c ≡ count_by p before → d ≡ one (p s) + c → d ≡ count_by p (s ∷ before)
tallied p before s c d e f = omega (arith, e, f, sum_by-cons (λ x. cond (p x) 1 0) s before)

summed : (f : Said → ℕ) (before : List Said) (s : Said) (c d : ℕ) → c ≡ sum_by f before → d ≡ f s + c → d ≡ sum_by f (s ∷ before)
summed f before s c d e g = omega (arith, e, g, sum_by-cons f s before)

under : (a b n : ℕ) → a ≡ b → b ≤ n → a ≤ n
under a b n e l = omega (arith, e, l)

pub counts-kept : (before : List Said) (s : Said) (c : LineCounts) → may_stand before s ≡ true → IsCounted before c → is_beyond s ≡ false → is_disordered before s ≡ false → passes_total before s ≡ false → IsCounted (s ∷ before) (counted s c)
counts-kept before s c place h b o t =
    let a = adds s c in
    record {
      bricks = a.bricks ∙ bricks-kept before s _ h.bricks;
      clients = tallied is_client before s _ _ h.clients a.clients;
      commands = tallied is_command before s _ _ h.commands a.commands;
      listings = tallied is_listing before s _ _ h.listings a.listings;
      healers = tallied is_healer before s _ _ h.healers a.healers;
      rounds = tallied is_round before s _ _ h.rounds a.rounds;
      faults = tallied is_fault before s _ _ h.faults a.faults;
      events = tallied is_event before s _ _ h.events a.events;
      orders = tallied is_order before s _ _ h.orders a.orders;
      last_at = a.last_at ∙ position-kept before s _ h.last_at;
      ends = summed write_end before s _ _ h.ends a.ends;
      lengths = summed read_len before s _ _ h.lengths a.lengths;
      few_clients = under _ _ _ a.clients (few_clients before s _ h.clients h.few_clients b o);
      few_commands = under _ _ _ a.commands (few_commands before s _ h.commands h.few_commands t);
      few_listings = under _ _ _ a.listings (few_listings before s _ h.listings h.few_listings t);
      few_healers = under _ _ _ a.healers (few_healers before s _ h.healers h.few_healers b o);
      few_rounds = under _ _ _ a.rounds (few_rounds before s _ h.rounds h.few_rounds t);
      few_faults = under _ _ _ a.faults (few_faults before s _ h.faults h.few_faults t);
      few_events = under _ _ _ a.events (few_events before s _ h.events h.few_events t);
      few_orders = under _ _ _ a.orders (few_orders before s _ h.orders h.few_orders t);
      few_ends = under _ _ _ a.ends (few_ends before s _ h.ends h.few_ends t);
      few_lengths = under _ _ _ a.lengths (few_lengths before s _ h.lengths h.few_lengths t);
      few_lines = lines_more before s c (counted s c) place h a;
    }

-- ---- places
or_last : (a b : Bool) → (a || (b || false)) ≡ (b || a)
or_last true true = refl
or_last true false = refl
or_last false true = refl
or_last false false = refl

pub places-kept : (before : List Said) (s : Said) (places : List FaultPlace) → ArePlaces before places → ArePlaces (s ∷ before) (with_place s places)
places-kept before (Faulty b n fault) places h = λ brick at.
    list_any-append (is_place brick at) places (place_at b n ∷ []) ∙ rw (h brick at) (or_last (list_any (is_fault_of brick at) before) (is_place brick at (place_at b n)))
places-kept before s places h = h

-- ---- the newest line, in the order of the code
pub pushed : (xs : List Spoken) (s : Spoken) → reverse (map seen (xs ++ s ∷ [])) ≡ seen s ∷ reverse (map seen xs)
pushed xs s = ap reverse (map-append seen xs (s ∷ [])) ∙ reverse-append (map seen xs) (seen s ∷ [])
