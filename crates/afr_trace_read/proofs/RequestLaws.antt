-- Requests, both ways.
use Rattle.std.proofs.Common.{Bool, [], ◌∷◌, length, sym, ◌≡◌, ℕ, ◌+◌, ◌-◌, ◌^◌, ◌<◌, ◌≤◌, List, ◌++◌, Some, refl, ap, ◌∙◌, codes, true, nat_lt, nat_le, arith}
use Rattle.std.specs.Prelude.{decimal}
use Rattle.std.proofs.lemmas.Bool.Decides.{nat_tests}
use Rattle.afr_base.specs.declared.ids.Gfid.{Gfid}
use Rattle.afr_base.specs.declared.ids.Kind.{Kind}
use Rattle.afr_model.specs.ReportReplies.{kind_text}
use Rattle.afr_report_trace.specs.Objects.{object_text, range_text}
use Rattle.afr_base.specs.Bricks.{and_left, and_right}
use Rattle.afr_plan.specs.declared.plan.Plan.{Plan}
use Rattle.afr_plan.specs.Bytes.{digit, name_byte, key_byte}
use Rattle.afr_plan.specs.Reading.{Reader, word_then, both, as_a}
use Rattle.afr_plan_read.proofs.Laws.{Any, first_of, Stops}
use Rattle.afr_base.specs.declared.marks.Marks.{Marks}
use Rattle.afr_report_trace.specs.Repairs.{marks_text}
use Rattle.afr_trace_read.specs.Forms.{then_word, number_below}
use Rattle.afr_trace_read.specs.Lists.{flagged, marks_at, missed_at}
use Rattle.afr_trace_read.proofs.MissedLaws.{IsBrickSet, flags_again, missed-takes, missed-again}
use Rattle.afr_report_trace.specs.Numbers.{bricks_text}
use Rattle.afr_trace_read.proofs.ReadsLaws.{reads-takes, reads-again}
use Rattle.afr_trace_read.proofs.MarksLaws.{marks-takes, marks-again}
use Rattle.afr_trace_read.proofs.NumberLaws.{small-takes, small-again, number-takes, number-again}
use Rattle.afr_trace_read.specs.Parts.{object_at, kind_at}
use Rattle.afr_trace_read.specs.Reading.{post_of, put_names_of, settle_of, lock_of, unlock_of, covered_at, in_order, range_at, read_of, copy_of, pre_of, cut_to_of, put_of, numbered_at, reading_at, stepping_at, mending_at, asked_at, read_name_of, read_attr_of}
use Rattle.afr_trace_read.specs.Texts.{asked_text}
use Rattle.afr_trace_read.specs.declared.kinds.SpelledRequest.{SpelledRequest}
use Rattle.afr_trace_read.specs.declared.kinds.SpelledRequest.TheVariants as asked
use Rattle.afr_trace_read.specs.Fit.{Always, AreMarks, IsGfid, IsAsked}
use Rattle.afr_trace_read.proofs.Laws.{IsSpaced, spaced_stops, Takes, Again, word-takes, word_then-takes, word_then-again, both-takes, both-again, then_word-takes, then_word-again, such_that-takes, such_that-again, as-takes, as-again, either-takes}
use Rattle.afr_trace_read.proofs.PartLaws.{object-takes, object-again, kind-takes, kind-again, named-takes, named-again, keyed-takes, keyed-again}
use Rattle.afr_trace_read.proofs.SpanLaws.{covered-takes, covered-again}

abbrev ranged_text : Plan → (Gfid × ℕ) × ℕ → List ℕ
ranged_text p x = range_text p x.0.0 x.0.1 x.1

abbrev IsRange : (Gfid × ℕ) × ℕ → Type 0
IsRange x = ((IsGfid x.0.0 × (x.0.1 < 2 ^ 32)) × (x.1 < 2 ^ 33)) × (in_order x ≡ true)

range-takes : (p : Plan) → Takes (range_at p) (ranged_text p) IsRange
unfolding range_at
range-takes p = such_that-takes _ in_order _ _ (then_word-takes _ (codes ")") _ _ (both-takes _ _ _ _ _ _ (then_word-takes _ (codes ",") _ _ (both-takes _ _ _ _ _ _ (then_word-takes _ (codes "[") _ _ (object-takes p)) small-takes)) (number-takes (2 ^ 33) (omega arith))))

range-again : (p : Plan) → p.files < 2 ^ 32 → Again (range_at p) (ranged_text p) IsRange Any
unfolding range_at
range-again p few = such_that-again _ in_order _ _ _ (then_word-again _ (codes ")") _ _ (Stops digit)
    (both-again _ _ _ _ _ _ Any (Stops digit) (then_word-again _ (codes ",") _ _ (Stops digit)
    (both-again _ _ _ _ _ _ Any (Stops digit) (then_word-again _ (codes "[") _ _ (Stops digit) (object-again p few) (λ rest. refl)) small-again (λ y rest ok n. tt)) (λ rest. refl))
    (number-again (2 ^ 33) (omega arith)) (λ y rest ok n. tt)) (λ rest. refl))

pub numbered-takes : (p : Plan) (w v : List ℕ) → Takes (numbered_at p w v) (λ x. w ++ object_text p x.0 ++ v ++ decimal x.1) (λ x. IsGfid x.0 × (x.1 < 2 ^ 32))
unfolding numbered_at
numbered-takes p w v = both-takes _ _ _ _ _ _ (then_word-takes _ v _ _ (word_then-takes w _ _ _ (object-takes p))) small-takes

pub numbered-again : (p : Plan) (w v : List ℕ) → p.files < 2 ^ 32 → ((rest : List ℕ) → Stops digit (v ++ rest)) → Again (numbered_at p w v) (λ x. w ++ object_text p x.0 ++ v ++ decimal x.1) (λ x. IsGfid x.0 × (x.1 < 2 ^ 32)) (Stops digit)
unfolding numbered_at
numbered-again p w v few may = both-again _ _ _ _ _ _ Any (Stops digit) (then_word-again _ v _ _ (Stops digit) (word_then-again w _ _ _ _ (object-again p few)) may) small-again (λ y rest ok n. tt)

-- a range as its start and its length
as_range : (p : Plan) (x : (Gfid × ℕ) × ℕ) → IsRange x → (IsGfid x.0.0 × (x.0.1 < 2 ^ 32) × (x.1 - x.0.1 < 2 ^ 32)) × (x.1 ≡ x.0.1 + (x.1 - x.0.1))
as_range p x h =
    let l : nat_le x.0.1 x.1 ≡ true = and_left (nat_le x.0.1 x.1) (nat_lt x.1 (x.0.1 + 2 ^ 32)) h.1 in
    let m : nat_lt x.1 (x.0.1 + 2 ^ 32) ≡ true = and_right (nat_le x.0.1 x.1) (nat_lt x.1 (x.0.1 + 2 ^ 32)) h.1 in
    let a : x.0.1 ≤ x.1 = grind (arith, nat_tests, l) in
    let b : x.1 < x.0.1 + 2 ^ 32 = grind (arith, nat_tests, m) in
    ((h.0.0.0, h.0.0.1, omega (arith, a, b)), omega (arith, a))

of_range : (g : Gfid) (at len : ℕ) → IsGfid g × (at < 2 ^ 32) × (len < 2 ^ 32) → IsRange ((g, at), at + len)
of_range g at len h =
    let a : nat_le at (at + len) ≡ true = grind (arith, nat_tests) in
    let b : nat_lt (at + len) (at + 2 ^ 32) ≡ true = grind (arith, nat_tests, h.2) in
    (((h.0, h.1), omega (arith, h.1, h.2)), rw (a, b) refl)

read_form : (p : Plan) (x : (Gfid × ℕ) × ℕ) → IsRange x → IsAsked p (read_of x) × (codes "read " ++ ranged_text p x ≡ asked_text p (read_of x))
read_form p x h = let r = as_range p x h in (r.0, ap (λ (to : ℕ). codes "read " ++ range_text p x.0.0 x.0.1 to) r.1)

copy_form : (p : Plan) (x : ((Gfid × ℕ) × ℕ) × ℕ) → IsRange x.0 × (x.1 < 2 ^ 32) → IsAsked p (copy_of x) × (codes "copy " ++ ranged_text p x.0 ++ codes " from " ++ decimal x.1 ≡ asked_text p (copy_of x))
copy_form p x h = let r = as_range p x.0 h.0 in ((r.0, h.1), ap (λ (to : ℕ). codes "copy " ++ range_text p x.0.0.0 x.0.0.1 to ++ codes " from " ++ decimal x.1) r.1)

about_object : (p : Plan) (w : List ℕ) → Takes (word_then w (object_at p)) (λ g. w ++ object_text p g) IsGfid
about_object p w = word_then-takes w _ _ _ (object-takes p)

object_about : (p : Plan) (w : List ℕ) → p.files < 2 ^ 32 → Again (word_then w (object_at p)) (λ g. w ++ object_text p g) IsGfid (Stops digit)
object_about p w few = word_then-again w _ _ _ _ (object-again p few)

abbrev posted_at : Reader (ℕ × List ℕ)
posted_at = both (then_word (word_then (codes "post ") (number_below (2 ^ 32))) (codes " ")) missed_at

abbrev posted_text : ℕ × List ℕ → List ℕ
posted_text x = codes "post " ++ decimal x.0 ++ codes " " ++ bricks_text x.1

posted-takes : Takes posted_at posted_text (λ x. (x.0 < 2 ^ 32) × IsBrickSet x.1)
posted-takes = both-takes _ _ _ _ _ _ (then_word-takes _ (codes " ") _ _ (word_then-takes (codes "post ") _ _ _ small-takes)) missed-takes

posted-again : Again posted_at posted_text (λ x. (x.0 < 2 ^ 32) × IsBrickSet x.1) IsSpaced
posted-again = both-again _ _ _ _ _ _ Any IsSpaced (then_word-again _ (codes " ") _ _ (Stops digit) (word_then-again (codes "post ") _ _ _ _ small-again) (λ rest. refl)) missed-again (λ y rest ok n. tt)

read_post : (attempt : ℕ) (missed : List Bool) (rest : List ℕ) → attempt < 2 ^ 32 → length missed ≡ 5 → IsSpaced rest → as_a post_of posted_at (posted_text (attempt, flagged 0 missed) ++ rest) ≡ Some (asked.Post attempt missed, rest)
read_post attempt (a ∷ b ∷ c ∷ d ∷ e ∷ []) rest l h n =
    let f = flags_again a b c d e in
    as-again post_of _ _ _ _ posted-again (attempt, flagged 0 (a ∷ b ∷ c ∷ d ∷ e ∷ [])) rest (l, f.0) n ∙ ap (λ (m : List Bool). Some (asked.Post attempt m, rest)) f.1
read_post attempt [] rest l h n = absurd (omega (arith, h))
read_post attempt (a ∷ []) rest l h n = absurd (omega (arith, h))
read_post attempt (a ∷ b ∷ []) rest l h n = absurd (omega (arith, h))
read_post attempt (a ∷ b ∷ c ∷ []) rest l h n = absurd (omega (arith, h))
read_post attempt (a ∷ b ∷ c ∷ d ∷ []) rest l h n = absurd (omega (arith, h))
read_post attempt (a ∷ b ∷ c ∷ d ∷ e ∷ f ∷ more) rest l h n = absurd (omega (arith, h))

abbrev settled_at : Plan → Reader ((Gfid × Kind) × Marks)
settled_at p = both (then_word (both (then_word (word_then (codes "settle ") (object_at p)) (codes " ")) kind_at) (codes " ")) (marks_at p.shape.n)

abbrev settled_text : Plan → (Gfid × Kind) × Marks → List ℕ
settled_text p x = codes "settle " ++ object_text p x.0.0 ++ codes " " ++ kind_text x.0.1 ++ codes " " ++ marks_text p x.1

abbrev IsSettled : Plan → (Gfid × Kind) × Marks → Type 0
IsSettled p x = (IsGfid x.0.0 × Always x.0.1) × AreMarks p.shape.n x.1

settled-takes : (p : Plan) → Takes (settled_at p) (settled_text p) (IsSettled p)
settled-takes p = both-takes _ _ _ _ _ _ (then_word-takes _ (codes " ") _ _ (both-takes _ _ _ _ _ _ (then_word-takes _ (codes " ") _ _ (about_object p (codes "settle "))) kind-takes)) (marks-takes p)

settled-again : (p : Plan) → p.files < 2 ^ 32 → Again (settled_at p) (settled_text p) (IsSettled p) IsSpaced
settled-again p few = both-again _ _ _ _ _ _ Any IsSpaced (then_word-again _ (codes " ") _ _ Any (both-again _ _ _ _ _ _ Any Any (then_word-again _ (codes " ") _ _ (Stops digit) (object_about p (codes "settle ") few) (λ rest. refl)) kind-again (λ y rest ok n. tt)) (λ rest. tt)) (marks-again p) (λ y rest ok n. tt)

reading-takes : (p : Plan) → Takes (reading_at p) (asked_text p) (IsAsked p)
unfolding reading_at
reading-takes p = either-takes _ _ _ _ (as-takes asked.Look _ _ _ _ _ (about_object p (codes "look ")) (λ x ok. (ok, refl))) (
    either-takes _ _ _ _ (as-takes read_of _ _ _ _ _ (word_then-takes (codes "read ") _ _ _ (range-takes p)) (read_form p)) (
    either-takes _ _ _ _ (as-takes read_name_of _ _ _ _ _ (word_then-takes (codes "name ") _ _ _ (named-takes p)) (λ x ok. (ok, refl))) (
    either-takes _ _ _ _ (as-takes read_attr_of _ _ _ _ _ (word_then-takes (codes "attr ") _ _ _ (keyed-takes p)) (λ x ok. (ok, refl))) (
    either-takes _ _ _ _ (as-takes asked.List _ _ _ _ _ (about_object p (codes "list ")) (λ x ok. (ok, refl))) (
    either-takes _ _ _ _ (as-takes asked.ReadAttrs _ _ _ _ _ (about_object p (codes "attrs ")) (λ x ok. (ok, refl))) (
    word-takes (codes "index") asked.Index _ _ tt refl))))))

stepping-takes : (p : Plan) → Takes (stepping_at p) (asked_text p) (IsAsked p)
unfolding stepping_at
stepping-takes p = either-takes _ _ _ _ (as-takes lock_of _ _ _ _ _ (covered-takes p (codes "lock ")) (λ x ok. (ok, refl))) (
    either-takes _ _ _ _ (as-takes unlock_of _ _ _ _ _ (covered-takes p (codes "unlock ")) (λ x ok. (ok, refl))) (
    either-takes _ _ _ _ (as-takes pre_of _ _ _ _ _ (both-takes _ _ _ _ _ _ (then_word-takes _ (codes " ") _ _ (about_object p (codes "pre "))) kind-takes) (λ x ok. (ok, refl))) (
    either-takes _ _ _ _ (as-takes asked.Apply _ _ _ _ _ (word_then-takes (codes "apply ") _ _ _ small-takes) (λ x ok. (ok, refl))) (
    as-takes post_of _ _ _ _ _ posted-takes (λ x ok. ((ok.0, refl), ap (λ (s : List ℕ). codes "post " ++ decimal x.0 ++ codes " " ++ bricks_text s) (sym ok.1)))))))

mending-takes : (p : Plan) → Takes (mending_at p) (asked_text p) (IsAsked p)
unfolding mending_at
mending-takes p = either-takes _ _ _ _ (as-takes cut_to_of _ _ _ _ _ (numbered-takes p (codes "cut ") (codes " ")) (λ x ok. (ok, refl))) (
    either-takes _ _ _ _ (as-takes copy_of _ _ _ _ _ (both-takes _ _ _ _ _ _ (then_word-takes _ (codes " from ") _ _ (word_then-takes (codes "copy ") _ _ _ (range-takes p))) small-takes) (copy_form p)) (
    either-takes _ _ _ _ (as-takes put_of _ _ _ _ _ (numbered-takes p (codes "put-attrs ") (codes " from ")) (λ x ok. (ok, refl))) (
    either-takes _ _ _ _ (as-takes put_names_of _ _ _ _ _ (both-takes _ _ _ _ _ _ (then_word-takes _ (codes " from ") _ _ (about_object p (codes "put-names "))) reads-takes) (λ x ok. (ok, refl))) (
    as-takes settle_of _ _ _ _ _ (settled-takes p) (λ x ok. (ok, refl))))))

pub asked-takes : (p : Plan) → Takes (asked_at p) (asked_text p) (IsAsked p)
unfolding asked_at
asked-takes p = either-takes _ _ _ _ (reading-takes p) (either-takes _ _ _ _ (stepping-takes p) (mending-takes p))

read_asked : (p : Plan) → p.files < 2 ^ 32 → (x : SpelledRequest) (rest : List ℕ) → IsAsked p x → IsSpaced rest → asked_at p (asked_text p x ++ rest) ≡ Some (x, rest)
unfolding asked_at reading_at stepping_at mending_at covered_at numbered_at
read_asked p few (asked.Look g) rest ok n = first_of _ _ _ (first_of _ _ _ (as-again asked.Look _ _ _ _ (object_about p (codes "look ") few) g rest ok (spaced_stops digit refl rest n)))
read_asked p few (asked.Lock d g s) rest ok n = first_of _ _ _ (first_of _ _ _ (as-again lock_of _ _ _ _ (covered-again p (codes "lock ") few) ((d, g), s) rest ok (spaced_stops name_byte refl rest n)))
read_asked p few (asked.Unlock d g s) rest ok n = first_of _ _ _ (first_of _ _ _ (as-again unlock_of _ _ _ _ (covered-again p (codes "unlock ") few) ((d, g), s) rest ok (spaced_stops name_byte refl rest n)))
read_asked p few (asked.ReadBytes g at len) rest ok n =
    let back : at + len - at ≡ len = omega arith in
    first_of _ _ _ (first_of _ _ _ (as-again read_of _ _ _ _ (word_then-again (codes "read ") _ _ _ _ (range-again p few)) ((g, at), at + len) rest (of_range g at len ok) tt ∙ ap (λ (m : ℕ). Some (asked.ReadBytes g at m, rest)) back))
read_asked p few (asked.ReadName dir name) rest ok n = first_of _ _ _ (first_of _ _ _ (as-again read_name_of _ _ _ _ (word_then-again (codes "name ") _ _ _ _ (named-again p few)) (dir, name) rest ok (spaced_stops name_byte refl rest n)))
read_asked p few (asked.ReadAttr g key) rest ok n = first_of _ _ _ (first_of _ _ _ (as-again read_attr_of _ _ _ _ (word_then-again (codes "attr ") _ _ _ _ (keyed-again p few)) (g, key) rest ok (spaced_stops key_byte refl rest n)))
read_asked p few (asked.List g) rest ok n = first_of _ _ _ (first_of _ _ _ (as-again asked.List _ _ _ _ (object_about p (codes "list ") few) g rest ok (spaced_stops digit refl rest n)))
read_asked p few (asked.ReadAttrs g) rest ok n = first_of _ _ _ (first_of _ _ _ (as-again asked.ReadAttrs _ _ _ _ (object_about p (codes "attrs ") few) g rest ok (spaced_stops digit refl rest n)))
read_asked p few asked.Index rest ok n = refl
read_asked p few (asked.Pre g kind) rest ok n = first_of _ _ _ (first_of _ _ _ (as-again pre_of _ _ _ _ (both-again _ _ _ _ _ _ Any Any (then_word-again _ (codes " ") _ _ (Stops digit) (object_about p (codes "pre ") few) (λ rest. refl)) kind-again (λ y rest ok n. tt)) (g, kind) rest ok tt))
read_asked p few (asked.Apply attempt) rest ok n = first_of _ _ _ (first_of _ _ _ (as-again asked.Apply _ _ _ _ (word_then-again (codes "apply ") _ _ _ _ small-again) attempt rest ok (spaced_stops digit refl rest n)))
read_asked p few (asked.Post attempt missed) rest ok n = first_of _ _ _ (read_post attempt missed rest ok.0 ok.1 n)
read_asked p few (asked.CutTo g len) rest ok n = first_of _ _ _ (as-again cut_to_of _ _ _ _ (numbered-again p (codes "cut ") (codes " ") few (λ rest. refl)) (g, len) rest ok (spaced_stops digit refl rest n))
read_asked p few (asked.Copy g at long read) rest ok n =
    let back : at + long - at ≡ long = omega arith in
    first_of _ _ _ (as-again copy_of _ _ _ _ (both-again _ _ _ _ _ _ Any (Stops digit) (then_word-again _ (codes " from ") _ _ Any (word_then-again (codes "copy ") _ _ _ _ (range-again p few)) (λ rest. tt)) small-again (λ y rest ok n. tt)) (((g, at), at + long), read) rest (of_range g at long ok.0, ok.1) (spaced_stops digit refl rest n) ∙ ap (λ (m : ℕ). Some (asked.Copy g at m read, rest)) back)
read_asked p few (asked.PutAttrs g read) rest ok n = first_of _ _ _ (as-again put_of _ _ _ _ (numbered-again p (codes "put-attrs ") (codes " from ") few (λ rest. refl)) (g, read) rest ok (spaced_stops digit refl rest n))
read_asked p few (asked.PutNames g reads) rest ok n = first_of _ _ _ (as-again put_names_of _ _ _ _ (both-again _ _ _ _ _ _ Any IsSpaced (then_word-again _ (codes " from ") _ _ (Stops digit) (object_about p (codes "put-names ") few) (λ rest. refl)) reads-again (λ y rest ok n. tt)) (g, reads) rest ok n)
read_asked p few (asked.Settle g kind less) rest ok n = as-again settle_of _ _ _ _ (settled-again p few) ((g, kind), less) rest ok n

pub asked-again : (p : Plan) → p.files < 2 ^ 32 → Again (asked_at p) (asked_text p) (IsAsked p) (IsSpaced)
asked-again p few = record { read = read_asked p few }
