-- Answers, changes and ends, both ways.
use Rattle.std.proofs.Common.{◌≡◌, ℕ, ◌^◌, ◌<◌, List, ◌++◌, Some, refl, codes, arith}
use Rattle.afr_base.specs.declared.ids.What.{What}
use Rattle.afr_base.specs.declared.ids.What.TheVariants.{File, Dir}
use Rattle.afr_report_trace.specs.Objects.{name_text, key_text, object_text}
use Rattle.afr_report_trace.specs.Changes.{make_word, remove_word}
use Rattle.afr_plan.specs.declared.plan.Plan.{Plan}
use Rattle.afr_plan.specs.Bytes.{digit, name_byte, key_byte}
use Rattle.afr_plan.specs.Reading.{word_then, both}
use Rattle.afr_plan_read.proofs.Laws.{Any, first_of, Stops}
use Rattle.afr_trace_read.specs.Forms.{then_word}
use Rattle.afr_trace_read.specs.Parts.{object_at, value_at, named_at, keyed_at}
use Rattle.afr_trace_read.specs.Reading.{numbered_at, answered_at, set_of, make_of, remove_of, made_at, removed_at, write_of, cut_change_of, changing_at, healed_at, replied_at}
use Rattle.afr_trace_read.specs.Texts.{answered_text, changing_text, healed_end, replied_text}
use Rattle.afr_trace_read.specs.declared.kinds.Answered.{Answered}
use Rattle.afr_trace_read.specs.declared.kinds.Answered.TheVariants as answered
use Rattle.afr_trace_read.specs.declared.kinds.SpelledChange.{SpelledChange}
use Rattle.afr_trace_read.specs.declared.kinds.SpelledChange.TheVariants as changing
use Rattle.afr_trace_read.specs.declared.kinds.Healed.{Healed}
use Rattle.afr_trace_read.specs.declared.kinds.Healed.TheVariants as healed
use Rattle.afr_trace_read.specs.declared.kinds.SpelledReply.{SpelledReply}
use Rattle.afr_trace_read.specs.declared.kinds.SpelledReply.TheVariants as replied
use Rattle.afr_trace_read.specs.Fit.{Always, IsGfid, IsNameOf, IsKeyOf, IsValueOf, IsAnswered, IsChanging, IsHealed}
use Rattle.afr_trace_read.proofs.Laws.{Takes, Again, word-takes, word_then-takes, word_then-again, both-takes, both-again, then_word-takes, then_word-again, as-takes, as-again, either-takes}
use Rattle.afr_trace_read.proofs.NumberLaws.{number-takes, number-again}
use Rattle.afr_trace_read.proofs.PartLaws.{actor-takes, actor-again, brick-takes, brick-again, object-takes, object-again, value_word, value-takes, value-again, named-takes, named-again, keyed-takes, keyed-again}
use Rattle.afr_trace_read.proofs.RequestLaws.{numbered-takes, numbered-again}
use Rattle.afr_trace_read.proofs.WordLaws.{name_then_digit, name_then_key}

pub answered-takes : Takes answered_at answered_text IsAnswered
unfolding answered_at
answered-takes = either-takes _ _ _ _ (word-takes (codes "granted") answered.Granted _ _ tt refl) (
    either-takes _ _ _ _ (as-takes answered.Held _ _ _ _ _ (word_then-takes (codes "held ") _ _ _ actor-takes) (λ x ok. (ok, refl))) (
    either-takes _ _ _ _ (word-takes (codes "seen") answered.Seen _ _ tt refl) (
    either-takes _ _ _ _ (word-takes (codes "done") answered.Done _ _ tt refl) (
    either-takes _ _ _ _ (word-takes (codes "ok") answered.Given _ _ tt refl) (
    either-takes _ _ _ _ (word-takes (codes "absent") answered.NoObject _ _ tt refl) (
    either-takes _ _ _ _ (word-takes (codes "lost") answered.Lost _ _ tt refl) (
    either-takes _ _ _ _ (word-takes (codes "gone") answered.Gone _ _ tt refl) (
    word-takes (codes "failed") answered.Failed _ _ tt refl))))))))

read_answered : (x : Answered) (rest : List ℕ) → IsAnswered x → Stops digit rest → answered_at (answered_text x ++ rest) ≡ Some (x, rest)
unfolding answered_at
read_answered (answered.Held a) rest ok n = first_of _ _ _ (as-again answered.Held _ _ _ _ (word_then-again (codes "held ") _ _ _ _ actor-again) a rest ok n)
read_answered answered.Granted rest ok n = refl
read_answered answered.Seen rest ok n = refl
read_answered answered.Done rest ok n = refl
read_answered answered.Given rest ok n = refl
read_answered answered.NoObject rest ok n = refl
read_answered answered.Lost rest ok n = refl
read_answered answered.Gone rest ok n = refl
read_answered answered.Failed rest ok n = refl

pub answered-again : Again answered_at answered_text IsAnswered (Stops digit)
answered-again = record { read = read_answered }

made-takes : Takes made_at make_word Always
unfolding made_at
made-takes = either-takes _ _ _ _ (word-takes (codes "create ") File _ _ tt refl) (word-takes (codes "mkdir ") Dir _ _ tt refl)

read_made : (x : What) (rest : List ℕ) → Always x → Any rest → made_at (make_word x ++ rest) ≡ Some (x, rest)
unfolding made_at
read_made File rest ok n = refl
read_made Dir rest ok n = refl

made-again : Again made_at make_word Always Any
made-again = record { read = read_made }

removed-takes : Takes removed_at remove_word Always
unfolding removed_at
removed-takes = either-takes _ _ _ _ (word-takes (codes "unlink ") File _ _ tt refl) (word-takes (codes "rmdir ") Dir _ _ tt refl)

read_removed : (x : What) (rest : List ℕ) → Always x → Any rest → removed_at (remove_word x ++ rest) ≡ Some (x, rest)
unfolding removed_at
read_removed File rest ok n = refl
read_removed Dir rest ok n = refl

removed-again : Again removed_at remove_word Always Any
removed-again = record { read = read_removed }

set-again : (p : Plan) → p.files < 2 ^ 32 → Again (both (then_word (word_then (codes "setattr ") (keyed_at p)) (codes " ")) (value_at p)) (λ x. codes "setattr " ++ key_text p x.0.0 x.0.1 ++ codes " " ++ value_word p x.1) (λ x. (IsGfid x.0.0 × IsKeyOf p x.0.1) × IsValueOf p x.1) (Stops key_byte)
set-again p few = both-again _ _ _ _ _ _ Any (Stops key_byte) (then_word-again _ (codes " ") _ _ (Stops key_byte) (word_then-again (codes "setattr ") _ _ _ _ (keyed-again p few)) (λ rest. refl)) (value-again p) (λ y rest ok n. tt)

make-again : (p : Plan) → p.files < 2 ^ 32 → Again (both (then_word (both made_at (named_at p)) (codes " ")) (object_at p)) (λ x. make_word x.0.0 ++ name_text p x.0.1.0 x.0.1.1 ++ codes " " ++ object_text p x.1) (λ x. (Always x.0.0 × (IsGfid x.0.1.0 × IsNameOf p x.0.1.1)) × IsGfid x.1) (Stops digit)
make-again p few = both-again _ _ _ _ _ _ Any (Stops digit) (then_word-again _ (codes " ") _ _ (Stops name_byte) (both-again _ _ _ _ _ _ Any (Stops name_byte) made-again (named-again p few) (λ y rest ok n. tt)) (λ rest. refl)) (object-again p few) (λ y rest ok n. tt)

remove-again : (p : Plan) → p.files < 2 ^ 32 → Again (both removed_at (named_at p)) (λ x. remove_word x.0 ++ name_text p x.1.0 x.1.1) (λ x. Always x.0 × (IsGfid x.1.0 × IsNameOf p x.1.1)) (Stops name_byte)
remove-again p few = both-again _ _ _ _ _ _ Any (Stops name_byte) removed-again (named-again p few) (λ y rest ok n. tt)

pub changing-takes : (p : Plan) → Takes (changing_at p) (changing_text p) (IsChanging p)
unfolding changing_at
changing-takes p = either-takes _ _ _ _ (as-takes write_of _ _ _ _ _ (both-takes _ _ _ _ _ _ (then_word-takes _ (codes " ") _ _ (numbered-takes p (codes "write ") (codes " "))) (number-takes (2 ^ 64) (omega arith))) (λ x ok. (ok, refl))) (
    either-takes _ _ _ _ (as-takes cut_change_of _ _ _ _ _ (numbered-takes p (codes "cut ") (codes " ")) (λ x ok. (ok, refl))) (
    either-takes _ _ _ _ (as-takes set_of _ _ _ _ _ (both-takes _ _ _ _ _ _ (then_word-takes _ (codes " ") _ _ (word_then-takes (codes "setattr ") _ _ _ (keyed-takes p))) (value-takes p)) (λ x ok. (ok, refl))) (
    either-takes _ _ _ _ (as-takes make_of _ _ _ _ _ (both-takes _ _ _ _ _ _ (then_word-takes _ (codes " ") _ _ (both-takes _ _ _ _ _ _ made-takes (named-takes p))) (object-takes p)) (λ x ok. (ok, refl))) (
    as-takes remove_of _ _ _ _ _ (both-takes _ _ _ _ _ _ removed-takes (named-takes p)) (λ x ok. (ok, refl))))))

read_changing : (p : Plan) → p.files < 2 ^ 32 → (x : SpelledChange) (rest : List ℕ) → IsChanging p x → Stops name_byte rest → changing_at p (changing_text p x ++ rest) ≡ Some (x, rest)
unfolding changing_at numbered_at made_at removed_at
read_changing p few (changing.Write g at len) rest ok n = first_of _ _ _ (as-again write_of _ _ _ _ (both-again _ _ _ _ _ _ Any (Stops digit) (then_word-again _ (codes " ") _ _ (Stops digit) (numbered-again p (codes "write ") (codes " ") few (λ rest. refl)) (λ rest. refl)) (number-again (2 ^ 64) (omega arith)) (λ y rest ok n. tt)) ((g, at), len) rest ok (name_then_digit rest n))
read_changing p few (changing.Cut g len) rest ok n = first_of _ _ _ (as-again cut_change_of _ _ _ _ (numbered-again p (codes "cut ") (codes " ") few (λ rest. refl)) (g, len) rest ok (name_then_digit rest n))
read_changing p few (changing.SetAttr g key value) rest ok n = first_of _ _ _ (as-again set_of _ _ _ _ (set-again p few) ((g, key), value) rest ok (name_then_key rest n))
read_changing p few (changing.Make File dir name g) rest ok n = first_of _ _ _ (as-again make_of _ _ _ _ (make-again p few) ((File, (dir, name)), g) rest ok (name_then_digit rest n))
read_changing p few (changing.Make Dir dir name g) rest ok n = first_of _ _ _ (as-again make_of _ _ _ _ (make-again p few) ((Dir, (dir, name)), g) rest ok (name_then_digit rest n))
read_changing p few (changing.Remove File dir name) rest ok n = as-again remove_of _ _ _ _ (remove-again p few) (File, (dir, name)) rest ok n
read_changing p few (changing.Remove Dir dir name) rest ok n = as-again remove_of _ _ _ _ (remove-again p few) (Dir, (dir, name)) rest ok n

pub changing-again : (p : Plan) → p.files < 2 ^ 32 → Again (changing_at p) (changing_text p) (IsChanging p) (Stops name_byte)
changing-again p few = record { read = read_changing p few }

pub healed-takes : Takes healed_at healed_end IsHealed
unfolding healed_at
healed-takes = either-takes _ _ _ _ (word-takes (codes "nothing") healed.Nothing _ _ tt refl) (
    either-takes _ _ _ _ (word-takes (codes "settled") healed.Settled _ _ tt refl) (
    either-takes _ _ _ _ (word-takes (codes "split") healed.Split _ _ tt refl) (
    either-takes _ _ _ _ (as-takes healed.Busy _ _ _ _ _ (word_then-takes (codes "busy ") _ _ _ actor-takes) (λ x ok. (ok, refl))) (
    either-takes _ _ _ _ (word-takes (codes "short") healed.Short _ _ tt refl) (
    either-takes _ _ _ _ (as-takes healed.Moved _ _ _ _ _ (word_then-takes (codes "moved ") _ _ _ brick-takes) (λ x ok. (ok, refl))) (
    word-takes (codes "failed") healed.Failed _ _ tt refl))))))

read_healed : (x : Healed) (rest : List ℕ) → IsHealed x → Stops digit rest → healed_at (healed_end x ++ rest) ≡ Some (x, rest)
unfolding healed_at
read_healed (healed.Busy a) rest ok n = first_of _ _ _ (as-again healed.Busy _ _ _ _ (word_then-again (codes "busy ") _ _ _ _ actor-again) a rest ok n)
read_healed (healed.Moved b) rest ok n = first_of _ _ _ (as-again healed.Moved _ _ _ _ (word_then-again (codes "moved ") _ _ _ _ brick-again) b rest ok n)
read_healed healed.Nothing rest ok n = refl
read_healed healed.Settled rest ok n = refl
read_healed healed.Split rest ok n = refl
read_healed healed.Short rest ok n = refl
read_healed healed.Failed rest ok n = refl

pub healed-again : Again healed_at healed_end IsHealed (Stops digit)
healed-again = record { read = read_healed }

pub replied-takes : Takes replied_at replied_text Always
unfolding replied_at
replied-takes = either-takes _ _ _ _ (word-takes (codes "ok") replied.Ok _ _ tt refl) (
    either-takes _ _ _ _ (word-takes (codes "no-entry") replied.NoEntry _ _ tt refl) (
    either-takes _ _ _ _ (word-takes (codes "exists") replied.Exists _ _ tt refl) (
    either-takes _ _ _ _ (word-takes (codes "not-dir") replied.NotDir _ _ tt refl) (
    either-takes _ _ _ _ (word-takes (codes "is-dir") replied.IsDir _ _ tt refl) (
    either-takes _ _ _ _ (word-takes (codes "not-empty") replied.NotEmpty _ _ tt refl) (
    either-takes _ _ _ _ (word-takes (codes "no-quorum") replied.NoQuorum _ _ tt refl) (
    either-takes _ _ _ _ (word-takes (codes "few-copies") replied.FewCopies _ _ tt refl) (
    either-takes _ _ _ _ (word-takes (codes "split-brain") replied.SplitBrain _ _ tt refl) (
    either-takes _ _ _ _ (word-takes (codes "failed") replied.Failed _ _ tt refl) (
    either-takes _ _ _ _ (word-takes (codes "too-large") replied.TooLarge _ _ tt refl) (
    word-takes (codes "half") replied.Half _ _ tt refl)))))))))))

read_replied : (x : SpelledReply) (rest : List ℕ) → Always x → Stops digit rest → replied_at (replied_text x ++ rest) ≡ Some (x, rest)
unfolding replied_at
read_replied replied.Ok rest ok n = refl
read_replied replied.NoEntry rest ok n = refl
read_replied replied.Exists rest ok n = refl
read_replied replied.NotDir rest ok n = refl
read_replied replied.IsDir rest ok n = refl
read_replied replied.NotEmpty rest ok n = refl
read_replied replied.NoQuorum rest ok n = refl
read_replied replied.FewCopies rest ok n = refl
read_replied replied.SplitBrain rest ok n = refl
read_replied replied.Failed rest ok n = refl
read_replied replied.TooLarge rest ok n = refl
read_replied replied.Half rest ok n = refl

pub replied-again : Again replied_at replied_text Always (Stops digit)
replied-again = record { read = read_replied }
