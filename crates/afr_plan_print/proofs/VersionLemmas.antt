-- Lines whose first two are spelled in another version: they break no rule either, and give the same plan.
use Rattle.std.proofs.Common.{◌≡◌, ℕ, ◌+◌, ◌≤◌, List, [], ◌∷◌, ◌++◌, length, refl, sym, ap, subst, ◌∙◌, arith, Bool, true, false, cond, ◌||◌, not, map, reverse, codes, inl, inr, ◌==◌}
use Rattle.std.specs.Prelude.{count_by, sum_by, nat_lt, nat_le}
use Rattle.std.specs.List.{list_all, list_any}
use Rattle.std.proofs.lemmas.List.{length-append}
use Rattle.std.proofs.lemmas.List.Sums.{sum_by-cons}
use Rattle.afr_base.specs.declared.ids.Shape.{Shape}
use Rattle.afr_plan.specs.declared.plan.Plan.{Plan}
use Rattle.afr_plan.specs.declared.version.Version.{Version}
use Rattle.afr_plan.specs.declared.version.Version.TheVariants.{One, Two}
use Rattle.afr_plan.specs.Bytes.{plain}
use Rattle.afr_plan.specs.Happening.{Who, OfClient, OfHealer, Happening, Stop, Start, Cut, Join, Kill}
use Rattle.afr_plan.specs.Action.{Action}
use Rattle.afr_plan.specs.Action as action
use Rattle.afr_plan.specs.TextLines.{bytes_of}
use Rattle.afr_plan.specs.Said.{five_replicas, Said, IsSaid, IsShape, IsHead, Afr, Volume, Files, Turns, Client, Command, Healer, Round, Faulty, At, Go, End}
use Rattle.afr_plan.specs.Rules.{word_of, next_words, may_stand, is_over, is_same, is_versioned, is_beyond, is_client, is_command, is_listing, is_healer, is_round, is_fault, is_fault_of, is_event, is_order, last_at, bricks_of, write_end, read_len, lacks_brick, lacks_who, is_event_disordered, is_disordered, passes_work, passes_total}
use Rattle.afr_plan.specs.PlanOf.{with_line, plan_of}
use Rattle.afr_plan.specs.Spells.{IsLine, AreLines}
use Rattle.afr_plan_print.specs.PrintedLine.{version_text, shape_text}
use Rattle.afr_plan_print.specs.PrintedPlan.{plan_lines, version_of}
use Rattle.afr_plan_print.proofs.StageLemmas.{may, stage, rises, past_turns}
use Rattle.afr_plan_print.proofs.PrintedLineLemmas.{five_text}
use Rattle.afr_plan_print.proofs.PlanLinesLemmas.{is_afr, is_volume, is_files, is_turns, heads, head_shape, lines_from}

-- what a line says, spelled in a version
abbrev pub in_version : Version → Said → Said
in_version v (Afr version) = Afr v
in_version v (Volume version shape) = Volume v shape
in_version v s = s

-- ---- each rule sees the same
word_kept : (v : Version) (s : Said) → word_of (in_version v s) ≡ word_of s
word_kept v (Afr w) = refl
word_kept v (Volume w shape) = refl
word_kept v s = refl

next_kept : (v : Version) (before : List Said) → next_words (map (in_version v) before) ≡ next_words before
next_kept v [] = refl
next_kept v (Afr w ∷ older) = refl
next_kept v (Volume w shape ∷ older) = refl
next_kept v (s ∷ older) = refl

over_kept : (v : Version) (before : List Said) → is_over (map (in_version v) before) ≡ is_over before
over_kept v [] = refl
over_kept v (End ∷ older) = refl
over_kept v (s ∷ older) = refl

limits_kept : (v : Version) (s : Said) → is_beyond (in_version v s) ≡ is_beyond s
limits_kept v (Afr w) = refl
limits_kept v (Volume w shape) = refl
limits_kept v s = refl

same_self : (v : Version) → is_same v v ≡ true
same_self One = refl
same_self Two = refl

versioned : (v : Version) (before : List Said) (s : Said) → is_versioned (map (in_version v) before) (in_version v s) ≡ true
versioned v [] s = refl
versioned v (Afr w ∷ older) (Volume u shape) = same_self v
versioned v (Afr w ∷ older) s = refl
versioned v (newest ∷ older) s = refl

-- ---- counts
count_kept : (v : Version) (p : Said → Bool) → ((s : Said) → p (in_version v s) ≡ p s) → (before : List Said) → count_by p (map (in_version v) before) ≡ count_by p before
count_kept v p same [] = refl
count_kept v p same (s ∷ before) =
    sum_by-cons (λ y. cond {A = ℕ} (p y) 1 0) (in_version v s) (map (in_version v) before)
    ∙ rw (same s, count_kept v p same before) (sym (sum_by-cons (λ y. cond {A = ℕ} (p y) 1 0) s before))

sum_kept : (v : Version) (f : Said → ℕ) → ((s : Said) → f (in_version v s) ≡ f s) → (before : List Said) → sum_by f (map (in_version v) before) ≡ sum_by f before
sum_kept v f same [] = refl
sum_kept v f same (s ∷ before) =
    sum_by-cons f (in_version v s) (map (in_version v) before)
    ∙ rw (same s, sum_kept v f same before) (sym (sum_by-cons f s before))

any_kept : (v : Version) (p : Said → Bool) → ((s : Said) → p (in_version v s) ≡ p s) → (before : List Said) → list_any p (map (in_version v) before) ≡ list_any p before
any_kept v p same [] = refl
any_kept v p same (s ∷ before) = rw (same s, any_kept v p same before) refl

client_same : (v : Version) (s : Said) → is_client (in_version v s) ≡ is_client s
client_same v (Client i) = refl
client_same v s = refl

command_same : (v : Version) (s : Said) → is_command (in_version v s) ≡ is_command s
command_same v (Command path w) = refl
command_same v s = refl

listing_same : (v : Version) (s : Said) → is_listing (in_version v s) ≡ is_listing s
listing_same v (Command path w) = refl
listing_same v s = refl

healer_same : (v : Version) (s : Said) → is_healer (in_version v s) ≡ is_healer s
healer_same v (Healer j) = refl
healer_same v s = refl

round_same : (v : Version) (s : Said) → is_round (in_version v s) ≡ is_round s
round_same v (Round brick) = refl
round_same v s = refl

fault_same : (v : Version) (s : Said) → is_fault (in_version v s) ≡ is_fault s
fault_same v (Faulty brick at fault) = refl
fault_same v s = refl

fault_of_same : (v : Version) (brick at : ℕ) (s : Said) → is_fault_of brick at (in_version v s) ≡ is_fault_of brick at s
fault_of_same v brick at (Faulty b n fault) = refl
fault_of_same v brick at s = refl

event_same : (v : Version) (s : Said) → is_event (in_version v s) ≡ is_event s
event_same v (At at event) = refl
event_same v s = refl

order_same : (v : Version) (s : Said) → is_order (in_version v s) ≡ is_order s
order_same v (Go who count) = refl
order_same v s = refl

end_same : (v : Version) (s : Said) → write_end (in_version v s) ≡ write_end s
end_same v (Command path w) = refl
end_same v s = refl

len_same : (v : Version) (s : Said) → read_len (in_version v s) ≡ read_len s
len_same v (Command path w) = refl
len_same v s = refl

last_kept : (v : Version) (before : List Said) → last_at (map (in_version v) before) ≡ last_at before
last_kept v [] = refl
last_kept v (At at event ∷ older) = refl
last_kept v (s ∷ older) = last_kept v older

bricks_kept : (v : Version) (before : List Said) → bricks_of (map (in_version v) before) ≡ bricks_of before
bricks_kept v [] = refl
bricks_kept v (Volume w shape ∷ older) = refl
bricks_kept v (s ∷ older) = bricks_kept v older

-- ---- order and totals
module _ (v : Version) (before : List Said) where
  brick_kept : (brick : ℕ) → lacks_brick (map (in_version v) before) brick ≡ lacks_brick before brick
  brick_kept brick = ap (λ (n : ℕ). nat_le n brick) (bricks_kept v before)

  who_kept : (who : Who) → lacks_who (map (in_version v) before) who ≡ lacks_who before who
  who_kept (OfClient i) = ap (λ (n : ℕ). i == 0 || nat_lt n i) (count_kept v is_client (client_same v) before)
  who_kept (OfHealer j) = ap (λ (n : ℕ). j == 0 || nat_lt n j) (count_kept v is_healer (healer_same v) before)

  event_kept : (event : Happening) → is_event_disordered (map (in_version v) before) event ≡ is_event_disordered before event
  event_kept (Stop brick) = brick_kept brick
  event_kept (Start brick) = brick_kept brick
  event_kept (Cut who brick) = rw (who_kept who, brick_kept brick) refl
  event_kept (Join who brick) = rw (who_kept who, brick_kept brick) refl
  event_kept (Kill who) = who_kept who

  order_kept : (s : Said) → is_disordered (map (in_version v) before) (in_version v s) ≡ is_disordered before s
  order_kept (Client i) = ap (λ (n : ℕ). not (i == n + 1)) (count_kept v is_client (client_same v) before)
  order_kept (Healer j) = ap (λ (n : ℕ). not (j == n + 1)) (count_kept v is_healer (healer_same v) before)
  order_kept (Round brick) = brick_kept brick
  order_kept (Faulty brick at fault) = rw (brick_kept brick, any_kept v (is_fault_of brick at) (fault_of_same v brick at) before) refl
  order_kept (At at event) = rw (last_kept v before, event_kept event) refl
  order_kept (Go who count) = who_kept who
  order_kept s = refl

  work_kept : (w : Action) → passes_work (map (in_version v) before) w ≡ passes_work before w
  work_kept (action.Write at bytes) = ap (λ (n : ℕ). nat_lt 268435456 (n + (at + length bytes))) (sum_kept v write_end (end_same v) before)
  work_kept (action.Read at len) = ap (λ (n : ℕ). nat_lt 67108864 (n + len)) (sum_kept v read_len (len_same v) before)
  work_kept action.Ls = ap (λ (n : ℕ). nat_le 256 n) (count_kept v is_listing (listing_same v) before)
  work_kept w = refl

  total_kept : (s : Said) → passes_total (map (in_version v) before) (in_version v s) ≡ passes_total before s
  total_kept (Command path w) = rw (count_kept v is_command (command_same v) before, work_kept w) refl
  total_kept (Round brick) = ap (λ (n : ℕ). nat_le 1024 n) (count_kept v is_round (round_same v) before)
  total_kept (Faulty brick at fault) = ap (λ (n : ℕ). nat_le 1024 n) (count_kept v is_fault (fault_same v) before)
  total_kept (At at event) = ap (λ (n : ℕ). nat_le 1024 n) (count_kept v is_event (event_same v) before)
  total_kept (Go who count) = ap (λ (n : ℕ). nat_le 1024 n) (count_kept v is_order (order_same v) before)
  total_kept s = refl

  -- a line, or another text of it, breaks no rule after lines in another version
  line_kept : (line text : List ℕ) (s : Said) → IsLine before line s → IsSaid text (in_version v s) → list_all plain text ≡ true → IsLine (map (in_version v) before) text (in_version v s)
  line_kept line text s l form bytes =
      let place : may_stand (map (in_version v) before) (in_version v s) ≡ may_stand before s = rw (next_kept v before, word_kept v s) refl in
      record { bytes = bytes; form = form; version = versioned v before s; place = place ∙ l.place; limits = limits_kept v s ∙ l.limits; order = order_kept s ∙ l.order; totals = total_kept s ∙ l.totals }

-- ---- lines after the head
-- a line after the head is spelled alike in both versions
past : (v : Version) (s : Said) → 1 ≤ stage s → in_version v s ≡ s
past v (Afr w) l = absurd (omega (arith, l))
past v (Volume w shape) l = absurd (omega (arith, l))
past v s l = refl

lines_kept : (v : Version) (lines : List (List ℕ)) (newest : Said) (older all : List Said) → ((s : Said) → may newest s ≡ true → 1 ≤ stage s) → AreLines lines (newest ∷ older) all
    → AreLines lines (map (in_version v) (newest ∷ older)) (map (in_version v) all)
lines_kept v [] newest older all k a = (over_kept v (newest ∷ older) ∙ a.0, ap (map (in_version v)) a.1)
lines_kept v (line ∷ lines) newest older all k a =
    let s = a.0 in
    let l : 1 ≤ stage s = k s a.1.place in
    let P : Said → Type 0 = λ t. IsSaid line t in
    (in_version v s, line_kept v (newest ∷ older) line line s a.1 (subst P (sym (past v s l)) a.1.form) a.1.bytes, lines_kept v lines s (newest ∷ older) all (λ t q. omega (arith, l, rises s t q)) a.2)

with_kept : (v : Version) (s : Said) (p : Plan) → with_line (in_version v s) p ≡ with_line s p
with_kept v (Afr w) p = refl
with_kept v (Volume w shape) p = refl
with_kept v s p = refl

plan_kept : (v : Version) (all : List Said) → plan_of (map (in_version v) all) ≡ plan_of all
plan_kept v [] = refl
plan_kept v (s ∷ older) = ap (with_line (in_version v s)) (plan_kept v older) ∙ with_kept v s (plan_of older)

-- ---- the first two lines
record HeadFits (v : Version) (line : List ℕ) : Type 0 where
  form : IsHead v (version_text v)
  bytes : list_all plain (version_text v) ≡ true
  short : length (version_text v) ≤ length line

head_five : (v : Version) (line : List ℕ) → IsHead v line → length line ≡ 5
head_five One line h = ap length h
head_five Two line h = ap length h

head_fits : (v w : Version) (line : List ℕ) → IsHead w line → HeadFits v line
head_fits One w line h = let l = head_five w line h in record { form = refl; bytes = refl; short = omega (arith, l) }
head_fits Two w line h = let l = head_five w line h in record { form = refl; bytes = refl; short = omega (arith, l) }

-- a shape is printed as one that is read so, and isn't longer
record ShapeFits (line : List ℕ) (shape : Shape) : Type 0 where
  form : IsShape (version_of shape) (shape_text (version_of shape) shape) shape
  bytes : list_all plain (codes "volume " ++ shape_text (version_of shape) shape) ≡ true
  short : length (shape_text (version_of shape) shape) ≤ length line

shape_fits : (w : Version) (line : List ℕ) (shape : Shape) → IsShape w line shape → ShapeFits line shape
shape_fits One line shape (inl h) = let l : length line ≡ 7 = ap length h.0 in subst (ShapeFits line) h.1 (record { form = inl (refl, refl); bytes = refl; short = omega (arith, l) })
shape_fits One line shape (inr h) = let l : length line ≡ 7 = ap length h.0 in subst (ShapeFits line) h.1 (record { form = inr (refl, refl); bytes = refl; short = omega (arith, l) })
shape_fits Two line shape (inl h) = let l : length line ≡ 9 = ap length h.0 in subst (ShapeFits line) h.1 (record { form = inl (refl, refl); bytes = refl; short = omega (arith, l) })
shape_fits Two line shape (inr (inl h)) =
    let l : length line ≡ 9 = ap length h.0 in
    let m : 9 ≡ length (shape_text Two five_replicas) = ap length five_text in
    let bytes : true ≡ list_all plain (codes "volume " ++ shape_text Two five_replicas) = ap (λ (t : List ℕ). list_all plain (codes "volume " ++ t)) five_text in
    subst (ShapeFits line) h.1 (record { form = inr (inl (sym five_text, refl)); bytes = sym bytes; short = omega (arith, l, m) })
shape_fits Two line shape (inr (inr h)) = let l : length line ≡ 9 = ap length h.0 in subst (ShapeFits line) h.1 (record { form = inr (refl, refl); bytes = refl; short = omega (arith, l) })

-- ---- all lines, the first two in the version that their shape is printed in
pub record Settled (lines : List (List ℕ)) (all : List Said) : Type 0 where
  pub texts : List (List ℕ)
  pub said : List Said
  pub again : AreLines texts [] said
  pub same : plan_of said ≡ plan_of all
  pub short : length (bytes_of texts) ≤ length (bytes_of lines)
  pub printed : plan_lines (plan_of said) ≡ reverse said

short_first : (a b : List ℕ) (x y : List (List ℕ)) → length a ≤ length b → length (bytes_of x) ≤ length (bytes_of y) → length (bytes_of (a ∷ x)) ≤ length (bytes_of (b ∷ y))
short_first a b x y l m = omega (arith, l, m, length-append a (10 ∷ []), length-append b (10 ∷ []), length-append (a ++ 10 ∷ []) (bytes_of x), length-append (b ++ 10 ∷ []) (bytes_of y))

settled_head : (one two three four : List ℕ) (lines : List (List ℕ)) (v w : Version) (shape : Shape) (k t : ℕ) (all : List Said)
    → IsLine [] one (Afr v) → IsLine (Afr v ∷ []) two (Volume w shape) → IsLine (Volume w shape ∷ Afr v ∷ []) three (Files k) → IsLine (Files k ∷ Volume w shape ∷ Afr v ∷ []) four (Turns t)
    → AreLines lines (Turns t ∷ Files k ∷ Volume w shape ∷ Afr v ∷ []) all → Settled (one ∷ two ∷ three ∷ four ∷ lines) all
settled_head one two three four lines v w shape k t all a b c d e =
    let n = version_of shape in
    let h = head_fits n v one a.form in
    let s = shape_fits w b.form.0 shape b.form.1 in
    let first : List ℕ = version_text n in
    let second : List ℕ = codes "volume " ++ shape_text n shape in
    let more : AreLines lines (Turns t ∷ heads k shape) (map (in_version n) all) = lines_kept n lines (Turns t) (Files k ∷ Volume w shape ∷ Afr v ∷ []) all (past_turns t) e in
    let same_two : length two ≡ length (codes "volume " ++ b.form.0) = ap length b.form.2 in
    let short_two : length second ≤ length two = omega (arith, same_two, s.short, length-append (codes "volume ") b.form.0, length-append (codes "volume ") (shape_text n shape)) in
    record {
      texts = first ∷ second ∷ three ∷ four ∷ lines;
      said = map (in_version n) all;
      again = (
        Afr n,
        line_kept n [] one first (Afr v) a h.form h.bytes,
        (
          Volume n shape,
          line_kept n (Afr v ∷ []) two second (Volume w shape) b (shape_text n shape, s.form, refl) s.bytes,
          (
            Files k,
            line_kept n (Volume w shape ∷ Afr v ∷ []) three three (Files k) c c.form c.bytes,
            (Turns t, line_kept n (Files k ∷ Volume w shape ∷ Afr v ∷ []) four four (Turns t) d d.form d.bytes, more),
          ),
        ),
      );
      same = plan_kept n all;
      short = short_first first one (second ∷ three ∷ four ∷ lines) (two ∷ three ∷ four ∷ lines) h.short (short_first second two (three ∷ four ∷ lines) (three ∷ four ∷ lines) short_two (omega arith));
      printed = lines_from lines (Turns t) (heads k shape) (map (in_version n) all) (λ q. cc) (past_turns t) (head_shape t k shape) more;
    }

settled_turns : (one two three : List ℕ) (lines : List (List ℕ)) (v w : Version) (shape : Shape) (k : ℕ) (all : List Said)
    → IsLine [] one (Afr v) → IsLine (Afr v ∷ []) two (Volume w shape) → IsLine (Volume w shape ∷ Afr v ∷ []) three (Files k) → AreLines lines (Files k ∷ Volume w shape ∷ Afr v ∷ []) all → Settled (one ∷ two ∷ three ∷ lines) all
settled_turns one two three [] v w shape k all a b c e = absurd (let q : false ≡ true = e.0 in (cc))
settled_turns one two three (four ∷ lines) v w shape k all a b c e =
    let t = is_turns e.0 e.1.place in
    let before = Files k ∷ Volume w shape ∷ Afr v ∷ [] in
    let P : Said → Type 0 = λ s. IsLine before four s × AreLines lines (s ∷ before) all in
    let f = subst P t.1 (e.1, e.2) in
    settled_head one two three four lines v w shape k t.0 all a b c f.0 f.1

settled_files : (one two : List ℕ) (lines : List (List ℕ)) (v w : Version) (shape : Shape) (all : List Said) → IsLine [] one (Afr v) → IsLine (Afr v ∷ []) two (Volume w shape) → AreLines lines (Volume w shape ∷ Afr v ∷ []) all → Settled (one ∷ two ∷ lines) all
settled_files one two [] v w shape all a b e = absurd (let q : false ≡ true = e.0 in (cc))
settled_files one two (three ∷ lines) v w shape all a b e =
    let k = is_files e.0 e.1.place in
    let before = Volume w shape ∷ Afr v ∷ [] in
    let P : Said → Type 0 = λ s. IsLine before three s × AreLines lines (s ∷ before) all in
    let f = subst P k.1 (e.1, e.2) in
    settled_turns one two three lines v w shape k.0 all a b f.0 f.1

settled_volume : (one : List ℕ) (lines : List (List ℕ)) (v : Version) (all : List Said) → IsLine [] one (Afr v) → AreLines lines (Afr v ∷ []) all → Settled (one ∷ lines) all
settled_volume one [] v all a e = absurd (let q : false ≡ true = e.0 in (cc))
settled_volume one (two ∷ lines) v all a e =
    let w = is_volume e.0 e.1.place in
    let P : Said → Type 0 = λ s. IsLine (Afr v ∷ []) two s × AreLines lines (s ∷ Afr v ∷ []) all in
    let f = subst P w.2 (e.1, e.2) in
    settled_files one two lines v w.0 w.1 all a f.0 f.1

pub settled : (lines : List (List ℕ)) (all : List Said) → AreLines lines [] all → Settled lines all
settled [] all e = absurd (let q : false ≡ true = e.0 in (cc))
settled (one ∷ lines) all e =
    let v = is_afr e.0 e.1.place in
    let P : Said → Type 0 = λ s. IsLine [] one s × AreLines lines (s ∷ []) all in
    let f = subst P v.1 (e.1, e.2) in
    settled_volume one lines v.0 all f.0 f.1
