-- The parts of a line of a trace, both ways.
use Rattle.std.proofs.Common.{◌≡◌, ℕ, ◌+◌, ◌-◌, ◌^◌, ◌<◌, List, [], ◌++◌, Some, refl, ap, ◌∙◌, codes, Bool, true, false, nat_lt, not, arith, cond}
use Rattle.std.specs.Prelude.{decimal, slice_index_or}
use Rattle.std.proofs.lemmas.Bool.Decides.{nat_tests}
use Rattle.afr_base.specs.declared.ids.ActorId.{ActorId}
use Rattle.afr_base.specs.declared.ids.BrickId.{BrickId}
use Rattle.afr_base.specs.declared.ids.Gfid.{Gfid}
use Rattle.afr_base.specs.declared.ids.Kind.{Kind}
use Rattle.afr_base.specs.declared.ids.Kind.TheVariants.{Bytes, Attrs, Names}
use Rattle.afr_plan.specs.declared.plan.Plan.{Plan}
use Rattle.afr_base.specs.declared.ids.KeyId.{KeyId}
use Rattle.afr_base.specs.declared.ids.NameId.{NameId}
use Rattle.afr_base.specs.declared.ids.ValueId.{ValueId}
use Rattle.afr_report_trace.specs.Objects.{name_text, key_text, object_text, is_opening}
use Rattle.afr_plan.specs.Bytes.{digit, name_byte, key_byte, is_name, is_key}
use Rattle.afr_model.specs.ReportReplies.{actor_text, kind_text}
use Rattle.afr_plan_read.proofs.Laws.{Any, first_of, Stops}
use Rattle.afr_trace_read.specs.Forms.{is_small}
use Rattle.afr_trace_read.specs.Parts.{actor_at, client_of, healer_of, is_some_number, brick_at, brick_of, object_at, opening_of, gfid_of, opens, opens_not, kind_at, cut_of, join_of, link_at, event_at, name_of, key_of, value_of, name_at, key_at, value_at, named_at, keyed_at}
use Rattle.afr_lines.specs.declared.line.Event.{Event}
use Rattle.afr_lines.specs.declared.line.Event.TheVariants as event
use Rattle.afr_report_trace.specs.Answers.{event_text}
use Rattle.afr_trace_read.specs.Fit.{IsNameOf, IsKeyOf, IsValueOf, Always, IsActor, IsBrick, IsGfid, IsEvent}
use Rattle.afr_trace_read.proofs.Laws.{Takes, Again, word-takes, word_then-takes, word_then-again, both-takes, both-again, then_word-takes, then_word-again, such_that-takes, such_that-again, as-takes, as-again, either-takes}
use Rattle.afr_trace_read.proofs.NumberLaws.{number-takes, number-again}
use Rattle.afr_trace_read.proofs.WordLaws.{word-takes-among, word-again-among}

-- ---- actors
client_text : (n : ℕ) → n < 17 → IsActor (client_of n) × (codes "c" ++ decimal n ≡ actor_text (client_of n))
client_text n l = let t : nat_lt 16 n ≡ false = grind (arith, nat_tests, l) in (omega (arith, l), rw t refl)

healer_text : (n : ℕ) → (n < 65520) × (is_some_number n ≡ true) → IsActor (healer_of n) × (codes "h" ++ decimal n ≡ actor_text (healer_of n))
healer_text n h =
    let some : 0 < n = grind (arith, nat_tests, h.1) in
    let t : nat_lt 16 (16 + n) ≡ true = grind (arith, nat_tests, some) in
    let e : 16 + n - 16 ≡ n = omega arith in
    (omega (arith, h.0), rw (t, e) refl)

pub actor-takes : Takes actor_at actor_text IsActor
unfolding actor_at
actor-takes = either-takes _ _ _ _
    (as-takes client_of _ _ _ _ _ (word_then-takes (codes "c") _ _ _ (number-takes 17 (omega arith))) client_text)
    (as-takes healer_of _ _ _ _ _ (word_then-takes (codes "h") _ _ _ (such_that-takes _ is_some_number _ _ (number-takes 65520 (omega arith)))) healer_text)

read_healer : (a : ActorId) (rest : List ℕ) → IsActor a → Stops digit rest → nat_lt 16 a.0 ≡ true → actor_at ((codes "h" ++ decimal (a.0 - 16)) ++ rest) ≡ Some (a, rest)
unfolding actor_at
read_healer a rest ok n e =
    let l : a.0 - 16 < 65520 = grind (arith, nat_tests, ok, e) in
    let s : is_some_number (a.0 - 16) ≡ true = grind (arith, nat_tests, e) in
    let back : 16 + (a.0 - 16) ≡ a.0 = grind (arith, nat_tests, e) in
    as-again healer_of _ _ _ _ (word_then-again (codes "h") _ _ _ _ (such_that-again _ is_some_number _ _ _ (number-again 65520 (omega arith)))) (a.0 - 16) rest (l, s) n ∙ ap (λ (m : ℕ). Some ((record { 0 = m }), rest)) back

read_client : (a : ActorId) (rest : List ℕ) → IsActor a → Stops digit rest → nat_lt 16 a.0 ≡ false → actor_at ((codes "c" ++ decimal a.0) ++ rest) ≡ Some (a, rest)
unfolding actor_at
read_client a rest ok n e =
    let l : a.0 < 17 = grind (arith, nat_tests, e) in
    first_of _ _ _ (as-again client_of _ _ _ _ (word_then-again (codes "c") _ _ _ _ (number-again 17 (omega arith))) a.0 rest l n)

read_actor : (a : ActorId) (rest : List ℕ) → IsActor a → Stops digit rest → actor_at (actor_text a ++ rest) ≡ Some (a, rest)
read_actor a rest ok n = step (nat_lt 16 a.0) refl
  where
    step : (b : Bool) → nat_lt 16 a.0 ≡ b → actor_at (cond b (codes "h" ++ decimal (a.0 - 16)) (codes "c" ++ decimal a.0) ++ rest) ≡ Some (a, rest)
    step true e = read_healer a rest ok n e
    step false e = read_client a rest ok n e

pub actor-again : Again actor_at actor_text IsActor (Stops digit)
actor-again = record { read = read_actor }

-- ---- bricks
abbrev pub brick_text : BrickId → List ℕ
brick_text b = decimal b.0

pub brick-takes : Takes brick_at brick_text IsBrick
unfolding brick_at
brick-takes = as-takes brick_of _ _ _ _ _ (number-takes 256 (omega arith)) (λ n l. (l, refl))

pub brick-again : Again brick_at brick_text IsBrick (Stops digit)
unfolding brick_at
brick-again = record { read = λ b rest ok n. as-again brick_of _ _ _ _ (number-again 256 (omega arith)) b.0 rest ok n }

-- ---- objects
opening_text : (p : Plan) (n : ℕ) → (n < 2 ^ 32) × (opens p n ≡ true) → IsGfid (opening_of n) × (codes "f" ++ decimal n ≡ object_text p (opening_of n))
opening_text p n h =
    let t : is_opening p (2 ^ 64 + n) ≡ true = grind (arith, nat_tests, h.1) in
    let e : 2 ^ 64 + n - 2 ^ 64 ≡ n = omega arith in
    (omega (arith, h.0), rw (t, e) refl)

other_text : (p : Plan) (n : ℕ) → (n < 2 ^ 128) × (opens_not p n ≡ true) → IsGfid (gfid_of n) × (codes "g" ++ decimal n ≡ object_text p (gfid_of n))
other_text p n h =
    let t : is_opening p n ≡ false = grind (arith, nat_tests, h.1) in
    (h.0, rw t refl)

pub object-takes : (p : Plan) → Takes (object_at p) (object_text p) IsGfid
unfolding object_at
object-takes p = either-takes _ _ _ _
    (as-takes opening_of _ _ _ _ _ (word_then-takes (codes "f") _ _ _ (such_that-takes _ (opens p) _ _ (number-takes (2 ^ 32) (omega arith)))) (opening_text p))
    (as-takes gfid_of _ _ _ _ _ (word_then-takes (codes "g") _ _ _ (such_that-takes _ (opens_not p) _ _ (number-takes (2 ^ 128) (omega arith)))) (other_text p))

read_opening : (p : Plan) → p.files < 2 ^ 32 → (g : Gfid) (rest : List ℕ) → IsGfid g → Stops digit rest → is_opening p g.0 ≡ true → object_at p ((codes "f" ++ decimal (g.0 - 2 ^ 64)) ++ rest) ≡ Some (g, rest)
unfolding object_at
read_opening p few g rest ok n e =
    let l : g.0 - 2 ^ 64 < 2 ^ 32 = grind (arith, nat_tests, e, few) in
    let s : opens p (g.0 - 2 ^ 64) ≡ true = grind (arith, nat_tests, e) in
    let back : 2 ^ 64 + (g.0 - 2 ^ 64) ≡ g.0 = grind (arith, nat_tests, e) in
    first_of _ _ _ (as-again opening_of _ _ _ _ (word_then-again (codes "f") _ _ _ _ (such_that-again _ (opens p) _ _ _ (number-again (2 ^ 32) (omega arith)))) (g.0 - 2 ^ 64) rest (l, s) n ∙ ap (λ (m : ℕ). Some ((record { 0 = m }), rest)) back)

read_other : (p : Plan) (g : Gfid) (rest : List ℕ) → IsGfid g → Stops digit rest → is_opening p g.0 ≡ false → object_at p ((codes "g" ++ decimal g.0) ++ rest) ≡ Some (g, rest)
unfolding object_at
read_other p g rest ok n e =
    let s : opens_not p g.0 ≡ true = ap not e in
    as-again gfid_of _ _ _ _ (word_then-again (codes "g") _ _ _ _ (such_that-again _ (opens_not p) _ _ _ (number-again (2 ^ 128) (omega arith)))) g.0 rest (ok, s) n

read_object : (p : Plan) → p.files < 2 ^ 32 → (g : Gfid) (rest : List ℕ) → IsGfid g → Stops digit rest → object_at p (object_text p g ++ rest) ≡ Some (g, rest)
read_object p few g rest ok n = step (is_opening p g.0) refl
  where
    step : (b : Bool) → is_opening p g.0 ≡ b → object_at p (cond b (codes "f" ++ decimal (g.0 - 2 ^ 64)) (codes "g" ++ decimal g.0) ++ rest) ≡ Some (g, rest)
    step true e = read_opening p few g rest ok n e
    step false e = read_other p g rest ok n e

pub object-again : (p : Plan) → p.files < 2 ^ 32 → Again (object_at p) (object_text p) IsGfid (Stops digit)
object-again p few = record { read = read_object p few }

-- ---- kinds
pub kind-takes : Takes kind_at kind_text Always
unfolding kind_at
kind-takes = either-takes _ _ _ _ (word-takes (codes "data") Bytes _ _ tt refl) (either-takes _ _ _ _ (word-takes (codes "metadata") Attrs _ _ tt refl) (word-takes (codes "entry") Names _ _ tt refl))

read_kind : (k : Kind) (rest : List ℕ) → Always k → Any rest → kind_at (kind_text k ++ rest) ≡ Some (k, rest)
unfolding kind_at
read_kind Bytes rest ok n = refl
read_kind Attrs rest ok n = refl
read_kind Names rest ok n = refl

pub kind-again : Again kind_at kind_text Always Any
kind-again = record { read = read_kind }

-- ---- events
link-takes : (w : List ℕ) → Takes (link_at w) (λ x. w ++ actor_text x.0 ++ codes " " ++ decimal x.1.0) (λ x. IsActor x.0 × IsBrick x.1)
link-takes w = both-takes _ _ _ _ _ _ (then_word-takes _ (codes " ") _ _ (word_then-takes w _ _ _ actor-takes)) brick-takes

link-again : (w : List ℕ) → Again (link_at w) (λ x. w ++ actor_text x.0 ++ codes " " ++ decimal x.1.0) (λ x. IsActor x.0 × IsBrick x.1) (Stops digit)
link-again w = both-again _ _ _ _ _ _ Any (Stops digit) (then_word-again _ (codes " ") _ _ _ (word_then-again w _ _ _ _ actor-again) (λ rest. refl)) brick-again (λ y rest ok n. tt)

pub event-takes : Takes event_at event_text IsEvent
unfolding event_at
event-takes = either-takes _ _ _ _ (as-takes event.Stop _ _ _ _ _ (word_then-takes (codes "stop ") _ _ _ brick-takes) (λ x ok. (ok, refl))) (
    either-takes _ _ _ _ (as-takes event.Start _ _ _ _ _ (word_then-takes (codes "start ") _ _ _ brick-takes) (λ x ok. (ok, refl))) (
    either-takes _ _ _ _ (as-takes cut_of _ _ _ _ _ (link-takes (codes "cut ")) (λ x ok. (ok, refl))) (
    either-takes _ _ _ _ (as-takes join_of _ _ _ _ _ (link-takes (codes "join ")) (λ x ok. (ok, refl))) (
    as-takes event.Kill _ _ _ _ _ (word_then-takes (codes "kill ") _ _ _ actor-takes) (λ x ok. (ok, refl))))))

read_event : (x : Event) (rest : List ℕ) → IsEvent x → Stops digit rest → event_at (event_text x ++ rest) ≡ Some (x, rest)
unfolding event_at
read_event (event.Stop b) rest ok n = first_of _ _ _ (as-again event.Stop _ _ _ _ (word_then-again (codes "stop ") _ _ _ _ brick-again) b rest ok n)
read_event (event.Start b) rest ok n = first_of _ _ _ (as-again event.Start _ _ _ _ (word_then-again (codes "start ") _ _ _ _ brick-again) b rest ok n)
read_event (event.Cut a b) rest ok n = first_of _ _ _ (as-again cut_of _ _ _ _ (link-again (codes "cut ")) (a, b) rest ok n)
read_event (event.Join a b) rest ok n = first_of _ _ _ (as-again join_of _ _ _ _ (link-again (codes "join ")) (a, b) rest ok n)
read_event (event.Kill a) rest ok n = as-again event.Kill _ _ _ _ (word_then-again (codes "kill ") _ _ _ _ actor-again) a rest ok n

pub event-again : Again event_at event_text IsEvent (Stops digit)
event-again = record { read = read_event }

-- ---- words of the plan
abbrev pub name_word : Plan → NameId → List ℕ
name_word p x = slice_index_or p.words.names x.0 []

pub name-takes : (p : Plan) → Takes (name_at p) (name_word p) (IsNameOf p)
unfolding name_at
name-takes p = as-takes name_of _ _ _ _ _ (such_that-takes _ is_small _ _ (word-takes-among name_byte is_name p.words.names)) (λ x ok. (ok, refl))

pub name-again : (p : Plan) → Again (name_at p) (name_word p) (IsNameOf p) (Stops name_byte)
unfolding name_at
name-again p = record { read = λ x rest ok n. as-again name_of _ _ _ _ (such_that-again _ is_small _ _ _ (word-again-among name_byte is_name p.words.names)) x.0 rest ok n }

abbrev pub key_word : Plan → KeyId → List ℕ
key_word p x = slice_index_or p.words.keys x.0 []

pub key-takes : (p : Plan) → Takes (key_at p) (key_word p) (IsKeyOf p)
unfolding key_at
key-takes p = as-takes key_of _ _ _ _ _ (such_that-takes _ is_small _ _ (word-takes-among key_byte is_key p.words.keys)) (λ x ok. (ok, refl))

pub key-again : (p : Plan) → Again (key_at p) (key_word p) (IsKeyOf p) (Stops key_byte)
unfolding key_at
key-again p = record { read = λ x rest ok n. as-again key_of _ _ _ _ (such_that-again _ is_small _ _ _ (word-again-among key_byte is_key p.words.keys)) x.0 rest ok n }

abbrev pub value_word : Plan → ValueId → List ℕ
value_word p x = slice_index_or p.words.values x.0 []

pub value-takes : (p : Plan) → Takes (value_at p) (value_word p) (IsValueOf p)
unfolding value_at
value-takes p = as-takes value_of _ _ _ _ _ (such_that-takes _ is_small _ _ (word-takes-among key_byte is_key p.words.values)) (λ x ok. (ok, refl))

pub value-again : (p : Plan) → Again (value_at p) (value_word p) (IsValueOf p) (Stops key_byte)
unfolding value_at
value-again p = record { read = λ x rest ok n. as-again value_of _ _ _ _ (such_that-again _ is_small _ _ _ (word-again-among key_byte is_key p.words.values)) x.0 rest ok n }

pub named-takes : (p : Plan) → Takes (named_at p) (λ x. name_text p x.0 x.1) (λ x. IsGfid x.0 × IsNameOf p x.1)
unfolding named_at
named-takes p = both-takes _ _ _ _ _ _ (then_word-takes _ (codes "/") _ _ (object-takes p)) (name-takes p)

pub named-again : (p : Plan) → p.files < 2 ^ 32 → Again (named_at p) (λ x. name_text p x.0 x.1) (λ x. IsGfid x.0 × IsNameOf p x.1) (Stops name_byte)
unfolding named_at
named-again p few = both-again _ _ _ _ _ _ Any (Stops name_byte) (then_word-again _ (codes "/") _ _ (Stops digit) (object-again p few) (λ rest. refl)) (name-again p) (λ y rest ok n. tt)

pub keyed-takes : (p : Plan) → Takes (keyed_at p) (λ x. key_text p x.0 x.1) (λ x. IsGfid x.0 × IsKeyOf p x.1)
unfolding keyed_at
keyed-takes p = both-takes _ _ _ _ _ _ (then_word-takes _ (codes " ") _ _ (object-takes p)) (key-takes p)

pub keyed-again : (p : Plan) → p.files < 2 ^ 32 → Again (keyed_at p) (λ x. key_text p x.0 x.1) (λ x. IsGfid x.0 × IsKeyOf p x.1) (Stops key_byte)
unfolding keyed_at
keyed-again p few = both-again _ _ _ _ _ _ Any (Stops key_byte) (then_word-again _ (codes " ") _ _ (Stops digit) (object-again p few) (λ rest. refl)) (key-again p) (λ y rest ok n. tt)
