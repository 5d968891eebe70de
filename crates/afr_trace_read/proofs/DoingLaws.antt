-- What an actor does, both ways.
use Rattle.std.proofs.Common.{◌≡◌, ℕ, ◌^◌, ◌<◌, List, ◌++◌, Some, None, refl, codes}
use Rattle.std.specs.Prelude.{decimal}
use Rattle.afr_base.specs.declared.ids.BrickId.{BrickId}
use Rattle.afr_base.specs.declared.ids.What.TheVariants.{File, Dir}
use Rattle.afr_report_trace.specs.Objects.{object_text}
use Rattle.afr_plan.specs.declared.plan.Plan.{Plan}
use Rattle.afr_plan.specs.Bytes.{digit, name_byte}
use Rattle.afr_plan.specs.Reading.{Reader, word_then, both, as_a}
use Rattle.afr_model.specs.ReportReplies.{kind_text}
use Rattle.afr_plan_read.proofs.Laws.{Any, first_of, Stops}
use Rattle.afr_trace_read.specs.Forms.{then_word, number_below}
use Rattle.afr_trace_read.specs.Parts.{brick_at, brick_of, kind_at}
use Rattle.afr_trace_read.specs.Reading.{asked_at, answered_at, healed_at, ask_of, heal_begin_of, heal_end_of, about_at, doing_at}
use Rattle.afr_trace_read.specs.Texts.{asked_text, answered_text, changing_text, replied_text, doing_text}
use Rattle.afr_trace_read.specs.declared.kinds.SpelledRequest.{SpelledRequest}
use Rattle.afr_trace_read.specs.declared.kinds.Answered.{Answered}
use Rattle.afr_trace_read.specs.declared.kinds.SpelledChange.{SpelledChange}
use Rattle.afr_trace_read.specs.declared.kinds.SpelledChange.TheVariants as changing
use Rattle.afr_trace_read.specs.declared.kinds.SpelledReply.{SpelledReply}
use Rattle.afr_trace_read.specs.declared.kinds.SpelledReply.TheVariants as replied
use Rattle.afr_trace_read.specs.declared.kinds.Doing.{Doing}
use Rattle.afr_trace_read.specs.declared.kinds.Doing.TheVariants as doing
use Rattle.afr_trace_read.specs.Fit.{Always, IsBrick, IsGfid, IsAsked, IsAnswered, IsDoing}
use Rattle.afr_trace_read.proofs.Laws.{IsSpaced, Takes, Again, word_then-takes, word_then-again, both-takes, both-again, then_word-takes, then_word-again, as-takes, as-again, as-none, both-none, then_word-none, second_of, either-takes}
use Rattle.afr_trace_read.proofs.NumberLaws.{no_number}
use Rattle.afr_trace_read.proofs.PartLaws.{brick-takes, brick-again, object-takes, object-again, kind-takes, kind-again}
use Rattle.afr_trace_read.proofs.RequestLaws.{asked-takes, asked-again}
use Rattle.afr_trace_read.proofs.ChangeLaws.{answered-takes, answered-again, changing-takes, changing-again, healed-takes, healed-again, replied-takes, replied-again}
use Rattle.afr_trace_read.proofs.WordLaws.{name_then_digit}

about-takes : (p : Plan) (w : List ℕ) → Takes (about_at p w) (λ x. w ++ kind_text x.0 ++ codes " " ++ object_text p x.1) (λ x. Always x.0 × IsGfid x.1)
unfolding about_at
about-takes p w = both-takes _ _ _ _ _ _ (then_word-takes _ (codes " ") _ _ (word_then-takes w _ _ _ kind-takes)) (object-takes p)

about-again : (p : Plan) (w : List ℕ) → p.files < 2 ^ 32 → Again (about_at p w) (λ x. w ++ kind_text x.0 ++ codes " " ++ object_text p x.1) (λ x. Always x.0 × IsGfid x.1) (Stops digit)
unfolding about_at
about-again p w few = both-again _ _ _ _ _ _ Any (Stops digit) (then_word-again _ (codes " ") _ _ Any (word_then-again w _ _ _ _ kind-again) (λ rest. tt)) (object-again p few) (λ y rest ok n. tt)

abbrev ask_at : Plan → Reader ((BrickId × SpelledRequest) × Answered)
ask_at p = both (then_word (both (then_word (word_then (codes " b") brick_at) (codes " ")) (asked_at p)) (codes " ")) answered_at

ask-takes : (p : Plan) → Takes (ask_at p) (λ x. codes " b" ++ decimal x.0.0.0 ++ codes " " ++ asked_text p x.0.1 ++ codes " " ++ answered_text x.1) (λ x. (IsBrick x.0.0 × IsAsked p x.0.1) × IsAnswered x.1)
ask-takes p = both-takes _ _ _ _ _ _ (then_word-takes _ (codes " ") _ _ (both-takes _ _ _ _ _ _ (then_word-takes _ (codes " ") _ _ (word_then-takes (codes " b") _ _ _ brick-takes)) (asked-takes p))) answered-takes

ask-again : (p : Plan) → p.files < 2 ^ 32 → Again (ask_at p) (λ x. codes " b" ++ decimal x.0.0.0 ++ codes " " ++ asked_text p x.0.1 ++ codes " " ++ answered_text x.1) (λ x. (IsBrick x.0.0 × IsAsked p x.0.1) × IsAnswered x.1) (Stops digit)
ask-again p few = both-again _ _ _ _ _ _ Any (Stops digit) (then_word-again _ (codes " ") _ _ (IsSpaced)
    (both-again _ _ _ _ _ _ Any (IsSpaced) (then_word-again _ (codes " ") _ _ (Stops digit) (word_then-again (codes " b") _ _ _ _ brick-again) (λ rest. refl)) (asked-again p few) (λ y rest ok n. tt)) (λ rest. refl))
    answered-again (λ y rest ok n. tt)

no_brick : (rest : List ℕ) → word_then (codes " b") brick_at (codes " begin " ++ rest) ≡ None
unfolding brick_at
no_brick rest = as-none brick_of (number_below 256) (codes "egin " ++ rest) (no_number 256 101 (codes "gin " ++ rest) refl)

no_ask : (p : Plan) (rest : List ℕ) → as_a ask_of (ask_at p) (codes " begin " ++ rest) ≡ None
no_ask p rest =
    let xs : List ℕ = codes " begin " ++ rest in
    let brick : Reader BrickId = word_then (codes " b") brick_at in
    let asks : Reader (BrickId × SpelledRequest) = both (then_word brick (codes " ")) (asked_at p) in
    as-none ask_of (ask_at p) xs (both-none (then_word asks (codes " ")) answered_at xs (then_word-none asks (codes " ") xs (both-none (then_word brick (codes " ")) (asked_at p) xs (then_word-none brick (codes " ") xs (no_brick rest)))))

pub doing-takes : (p : Plan) → Takes (doing_at p) (doing_text p) (IsDoing p)
unfolding doing_at
doing-takes p = either-takes _ _ _ _ (as-takes ask_of _ _ _ _ _ (ask-takes p) (λ x ok. (ok, refl))) (
    either-takes _ _ _ _ (as-takes heal_begin_of _ _ _ _ _ (about-takes p (codes " begin heal ")) (λ x ok. (ok, refl))) (
    either-takes _ _ _ _ (as-takes doing.Begin _ _ _ _ _ (word_then-takes (codes " begin ") _ _ _ (changing-takes p)) (λ x ok. (ok, refl))) (
    either-takes _ _ _ _ (as-takes heal_end_of _ _ _ _ _ (both-takes _ _ _ _ _ _ (then_word-takes _ (codes " ") _ _ (about-takes p (codes " end "))) healed-takes) (λ x ok. (ok, refl))) (
    as-takes doing.End _ _ _ _ _ (word_then-takes (codes " end ") _ _ _ replied-takes) (λ x ok. (ok, refl))))))

no_heal_begin : (p : Plan) (c : SpelledChange) (rest : List ℕ) → as_a heal_begin_of (about_at p (codes " begin heal ")) ((codes " begin " ++ changing_text p c) ++ rest) ≡ None
unfolding about_at
no_heal_begin p (changing.Write g at len) rest = refl
no_heal_begin p (changing.Cut g len) rest = refl
no_heal_begin p (changing.SetAttr g key value) rest = refl
no_heal_begin p (changing.Make File dir name g) rest = refl
no_heal_begin p (changing.Make Dir dir name g) rest = refl
no_heal_begin p (changing.Remove File dir name) rest = refl
no_heal_begin p (changing.Remove Dir dir name) rest = refl

no_heal_end : (p : Plan) (x : SpelledReply) (rest : List ℕ) → as_a heal_end_of (both (then_word (about_at p (codes " end ")) (codes " ")) healed_at) ((codes " end " ++ replied_text x) ++ rest) ≡ None
unfolding about_at kind_at
no_heal_end p replied.Ok rest = refl
no_heal_end p replied.NoEntry rest = refl
no_heal_end p replied.Exists rest = refl
no_heal_end p replied.NotDir rest = refl
no_heal_end p replied.IsDir rest = refl
no_heal_end p replied.NotEmpty rest = refl
no_heal_end p replied.NoQuorum rest = refl
no_heal_end p replied.FewCopies rest = refl
no_heal_end p replied.SplitBrain rest = refl
no_heal_end p replied.Failed rest = refl
no_heal_end p replied.TooLarge rest = refl
no_heal_end p replied.Half rest = refl

read_doing : (p : Plan) → p.files < 2 ^ 32 → (x : Doing) (rest : List ℕ) → IsDoing p x → Stops name_byte rest → doing_at p (doing_text p x ++ rest) ≡ Some (x, rest)
unfolding doing_at about_at
read_doing p few (doing.Ask b a told) rest ok n = first_of _ _ _ (as-again ask_of _ _ _ _ (ask-again p few) ((b, a), told) rest ok (name_then_digit rest n))
read_doing p few (doing.HealBegin kind g) rest ok n = second_of _ _ _ (no_ask p ((codes "heal " ++ kind_text kind ++ codes " " ++ object_text p g) ++ rest)) (first_of _ _ _ (as-again heal_begin_of _ _ _ _ (about-again p (codes " begin heal ") few) (kind, g) rest ok (name_then_digit rest n)))
read_doing p few (doing.Begin change) rest ok n = second_of _ _ _ (no_ask p (changing_text p change ++ rest)) (second_of _ _ _ (no_heal_begin p change rest) (first_of _ _ _ (as-again doing.Begin _ _ _ _ (word_then-again (codes " begin ") _ _ _ _ (changing-again p few)) change rest ok n)))
read_doing p few (doing.HealEnd kind g h) rest ok n = first_of _ _ _ (as-again heal_end_of _ _ _ _ (both-again _ _ _ _ _ _ Any (Stops digit) (then_word-again _ (codes " ") _ _ (Stops digit) (about-again p (codes " end ") few) (λ rest. refl)) healed-again (λ y rest ok n. tt)) ((kind, g), h) rest ok (name_then_digit rest n))
read_doing p few (doing.End reply) rest ok n = second_of _ _ _ (no_heal_end p reply rest) (as-again doing.End _ _ _ _ (word_then-again (codes " end ") _ _ _ _ replied-again) reply rest ok (name_then_digit rest n))

pub doing-again : (p : Plan) → p.files < 2 ^ 32 → Again (doing_at p) (doing_text p) (IsDoing p) (Stops name_byte)
doing-again p few = record { read = read_doing p few }

pub doing_stops : (p : Plan) (x : Doing) (rest : List ℕ) → Stops digit (doing_text p x ++ rest)
doing_stops p (doing.Ask b a told) rest = refl
doing_stops p (doing.HealBegin kind g) rest = refl
doing_stops p (doing.Begin change) rest = refl
doing_stops p (doing.HealEnd kind g h) rest = refl
doing_stops p (doing.End reply) rest = refl
