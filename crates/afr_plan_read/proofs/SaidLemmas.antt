-- What a line is read to say is what it says.
use Rattle.std.proofs.Common.{◌≡◌, ℕ, List, [], ◌∷◌, ◌++◌, Some, refl, ap, subst, ◌∙◌, codes, inl, inr, drop}
use Rattle.afr_plan.specs.Bytes.{digit, path_byte, key_byte, hex_digit}
use Rattle.afr_plan.specs.Reading.{Reader, word, word_then, both, as_a, or_else, whole, path_at, number_at}
use Rattle.afr_base.specs.declared.ids.Shape.{Shape}
use Rattle.afr_plan.specs.Said.{Said, IsSaid, Afr, Volume, Files, Turns, Client, Command, Healer, Round, Faulty, At, Go, End}
use Rattle.afr_plan.specs.SaidReading.{shape_one_at, shape_two_at, said, command_forms, line_forms, one_of, write_of, cut_of, read_of, set_of, get_of, rename_of, on_path, fault_of, event_of, order_of, volume_one_at, volume_two_at, files_at, turns_at, client_at, write_at, cut_at, read_at, path_line, named_line, set_at, get_at, rename_at, healer_at, round_at, fault_at, event_at, order_at}
use Rattle.afr_plan.specs.Spelling.{IsNumber, IsPath, IsNamedPath, WordThen, Both}
use Rattle.afr_plan.specs.Action.{Action, IsCommand, Write, Read, Create, Mkdir, Unlink, Rmdir, Ls, Stat, SetAttr, GetAttr, Rename}
use Rattle.afr_plan.specs.Action as action
use Rattle.afr_plan.specs.declared.version.Version.{Version}
use Rattle.afr_plan.specs.declared.version.Version.TheVariants.{One, Two}
use Rattle.afr_plan_read.proofs.Laws.{Takes, Again, Any, Stops, word-takes, word_then-takes, word_then-again, both-takes, both-again, as-again, as-so, takes-so, or_some, whole-takes, whole-again, path-takes, path-again, named_path-takes, named_path-again, key-takes, key-again, number-takes, number-again, small-takes, small-again}
use Rattle.afr_plan_read.proofs.PartLemmas.{data-takes, data-again, shape_one-takes, shape_two-takes, kind-takes, kind-again, who-takes, who-again, happening-takes, happening-again}

-- ---- what is read is said
abbrev AllTake : List (Reader Said) → Type 0
AllTake [] = Unit {0}
AllTake (r ∷ rs) = Takes r IsSaid × AllTake rs

one_of-takes : (rs : List (Reader Said)) → AllTake rs → (line : List ℕ) (s : Said) → one_of rs line ≡ Some s → IsSaid line s
one_of-takes [] all line s e = absurd (cc)
one_of-takes (r ∷ rs) all line s e = elim (or_some (whole r line) (one_of rs line) s e) [
  | inl h ↦ whole-takes r IsSaid all.0 line s h
  | inr h ↦ one_of-takes rs all.1 line s h
]

word-said : (text : List ℕ) (a : Said) → ((w : List ℕ) → w ≡ text → IsSaid w a) → Takes (word text a) IsSaid
word-said text a f = takes-so _ _ _ (word-takes text a) (λ w x h. let P : Said → Type 0 = λ s. IsSaid w s in subst P h.1 (f w h.0))

number_then : (text : List ℕ) → Takes (word_then text number_at) (WordThen text IsNumber)
number_then text = word_then-takes text _ _ number-takes

-- a path and what follows it
path_and : {A : Type 0} (text : List ℕ) (q : Reader A) (T : List ℕ → A → Type 0) → Takes q T → Takes (word_then text (both path_at (word_then (codes " ") q))) (WordThen text (Both IsPath (WordThen (codes " ") T)))
path_and text q T t = word_then-takes text _ _ (both-takes _ _ _ _ path-takes (word_then-takes (codes " ") _ _ t))

-- a number and what follows it
number_and : {A : Type 0} (q : Reader A) (T : List ℕ → A → Type 0) → Takes q T → Takes (both number_at (word_then (codes " ") q)) (Both IsNumber (WordThen (codes " ") T))
number_and q T t = both-takes _ _ _ _ number-takes (word_then-takes (codes " ") _ _ t)

named-said : (text : List ℕ) (w : Action) → ((line : List ℕ) (path : List (List ℕ)) → WordThen text IsNamedPath line path → IsSaid line (Command path w)) → Takes (named_line text w) IsSaid
unfolding named_line
named-said text w f = as-so (on_path w) _ _ _ (word_then-takes text _ _ named_path-takes) f

path-said : (text : List ℕ) (w : Action) → ((line : List ℕ) (path : List (List ℕ)) → WordThen text IsPath line path → IsSaid line (Command path w)) → Takes (path_line text w) IsSaid
unfolding path_line
path-said text w f = as-so (on_path w) _ _ _ (word_then-takes text _ _ path-takes) f

commands-take : AllTake command_forms
unfolding write_at cut_at read_at set_at get_at rename_at
commands-take = (
  as-so write_of _ _ _ (path_and (codes "write ") _ _ (number_and _ _ data-takes)) (λ w x h. h),
  (
    as-so cut_of _ _ _ (path_and (codes "cut ") _ _ number-takes) (λ w x h. h),
    (
      as-so read_of _ _ _ (path_and (codes "read ") _ _ (number_and _ _ number-takes)) (λ w x h. h),
      (
        named-said (codes "create ") Create (λ line path h. h),
        (
          named-said (codes "mkdir ") Mkdir (λ line path h. h),
          (
            named-said (codes "unlink ") Unlink (λ line path h. h),
            (
              named-said (codes "rmdir ") Rmdir (λ line path h. h),
              (
                path-said (codes "ls ") Ls (λ line path h. h),
                (
                  path-said (codes "stat ") Stat (λ line path h. h),
                  (
                    as-so set_of _ _ _ (path_and (codes "setattr ") _ _ (both-takes _ _ _ _ key-takes (word_then-takes (codes " ") _ _ key-takes))) (λ w x h. h),
                    (
                      as-so get_of _ _ _ (path_and (codes "getattr ") _ _ key-takes) (λ w x h. h),
                      (
                        as-so rename_of _ _ _ (word_then-takes (codes "rename ") _ _ (both-takes _ _ _ _ named_path-takes (word_then-takes (codes " ") _ _ named_path-takes))) (λ w x h. h),
                        tt,
                      ),
                    ),
                  ),
                ),
              ),
            ),
          ),
        ),
      ),
    ),
  ),
)

lines-take : AllTake line_forms
unfolding volume_one_at volume_two_at files_at turns_at client_at healer_at round_at fault_at event_at order_at
lines-take = (
  word-said (codes "afr 1") (Afr One) (λ w e. e),
  (
    word-said (codes "afr 2") (Afr Two) (λ w e. e),
    (
      as-so (Volume One) _ _ _ (word_then-takes (codes "volume ") _ _ shape_one-takes) (λ w x h. h),
      (
        as-so (Volume Two) _ _ _ (word_then-takes (codes "volume ") _ _ shape_two-takes) (λ w x h. h),
        (
          as-so Files _ _ _ (number_then (codes "files ")) (λ w x h. h),
          (
            as-so Turns _ _ _ (number_then (codes "turns ")) (λ w x h. h),
            (
              as-so Client _ _ _ (number_then (codes "client ")) (λ w x h. h),
              (
                as-so Healer _ _ _ (number_then (codes "healer ")) (λ w x h. h),
                (
                  as-so Round _ _ _ (word_then-takes (codes "round ") _ _ small-takes) (λ w x h. h),
                  (
                    as-so fault_of _ _ _ (word_then-takes (codes "fault ") _ _ (both-takes _ _ _ _ small-takes (word_then-takes (codes " ") _ _ (number_and _ _ kind-takes)))) (λ w x h. h),
                    (
                      as-so event_of _ _ _ (word_then-takes (codes "at ") _ _ (number_and _ _ happening-takes)) (λ w x h. h),
                      (
                        as-so order_of _ _ _ (word_then-takes (codes "go ") _ _ (both-takes _ _ _ _ who-takes (number_then (codes " ")))) (λ w x h. h),
                        (
                          word-said (codes "end") End (λ w e. e),
                          tt,
                        ),
                      ),
                    ),
                  ),
                ),
              ),
            ),
          ),
        ),
      ),
    ),
  ),
)

pub said-takes : (line : List ℕ) (s : Said) → said line ≡ Some s → IsSaid line s
unfolding said
said-takes line s e = elim (or_some (one_of command_forms line) (one_of line_forms line) s e) [
  | inl h ↦ one_of-takes command_forms commands-take line s h
  | inr h ↦ one_of-takes line_forms lines-take line s h
]

-- ---- and what is said is read
-- the first form that takes the line, where those before it don't
line_is : (r : Reader Said) (rs : List (Reader Said)) (line : List ℕ) (s : Said) → whole r line ≡ Some s → one_of (r ∷ rs) line ≡ Some s
line_is r rs line s e = rw e refl

command_is : (r : Reader Said) (rs others : List (Reader Said)) (line : List ℕ) (s : Said) → whole r line ≡ Some s → or_else (one_of (r ∷ rs) line) (one_of others line) ≡ Some s
command_is r rs others line s e = rw e refl

number_again : (text : List ℕ) → Again (word_then text number_at) (WordThen text IsNumber) (Stops digit)
number_again text = word_then-again text _ _ (Stops digit) number-again

path_and_again : {A : Type 0} (text : List ℕ) (q : Reader A) (T : List ℕ → A → Type 0) (Next : List ℕ → Type 0) → Again q T Next → Again (word_then text (both path_at (word_then (codes " ") q))) (WordThen text (Both IsPath (WordThen (codes " ") T))) Next
path_and_again text q T Next t = word_then-again text _ _ Next (both-again _ _ _ _ (Stops path_byte) Next path-again (word_then-again (codes " ") _ _ Next t) (λ v y rest t. rw t.2 refl))

number_and_again : {A : Type 0} (q : Reader A) (T : List ℕ → A → Type 0) (Next : List ℕ → Type 0) → Again q T Next → Again (both number_at (word_then (codes " ") q)) (Both IsNumber (WordThen (codes " ") T)) Next
number_and_again q T Next t = both-again _ _ _ _ (Stops digit) Next number-again (word_then-again (codes " ") _ _ Next t) (λ v y rest t. rw t.2 refl)

-- a whole line whose value has another form
whole_as : {A : Type 0} (f : A → Said) (r : Reader A) (S : List ℕ → A → Type 0) (Next : List ℕ → Type 0) → Again r S Next → Next [] → (line : List ℕ) (x : A) → S line x → whole (as_a f r) line ≡ Some (f x)
whole_as f r S Next t n line x s = whole-again _ _ _ (as-again f r S Next t) n line (f x) (x, s, refl)

named_again : (text : List ℕ) (w : Action) (line : List ℕ) (path : List (List ℕ)) → WordThen text IsNamedPath line path → whole (named_line text w) line ≡ Some (Command path w)
unfolding named_line
named_again text w line path h = whole_as (on_path w) _ _ (Stops path_byte) (word_then-again text _ _ (Stops path_byte) named_path-again) tt line path h

path_again : (text : List ℕ) (w : Action) (line : List ℕ) (path : List (List ℕ)) → WordThen text IsPath line path → whole (path_line text w) line ≡ Some (Command path w)
unfolding path_line
path_again text w line path h = whole_as (on_path w) _ _ (Stops path_byte) (word_then-again text _ _ (Stops path_byte) path-again) tt line path h

command_again : (line : List ℕ) (path : List (List ℕ)) (w : Action) → IsCommand line path w → said line ≡ Some (Command path w)
unfolding said write_at cut_at read_at set_at get_at rename_at named_line path_line
command_again line path (Write at bytes) h = ap said h.2 ∙ command_is write_at (drop 1 command_forms) line_forms (codes "write " ++ h.0) _
    (whole_as write_of _ _ (Stops hex_digit) (path_and_again (codes "write ") _ _ _ (number_and_again _ _ _ data-again)) tt _ (path, (at, bytes)) (h.0, h.1, refl))
command_again line path (action.Cut len) h = ap said h.2 ∙ command_is cut_at (drop 2 command_forms) line_forms (codes "cut " ++ h.0) _
    (whole_as cut_of _ _ (Stops digit) (path_and_again (codes "cut ") _ _ _ number-again) tt _ (path, len) (h.0, h.1, refl))
command_again line path (Read at len) h = ap said h.2 ∙ command_is read_at (drop 3 command_forms) line_forms (codes "read " ++ h.0) _
    (whole_as read_of _ _ (Stops digit) (path_and_again (codes "read ") _ _ _ (number_and_again _ _ _ number-again)) tt _ (path, (at, len)) (h.0, h.1, refl))
command_again line path Create h = ap said h.2 ∙ command_is (named_line (codes "create ") Create) (drop 4 command_forms) line_forms (codes "create " ++ h.0) _ (named_again (codes "create ") Create _ path (h.0, h.1, refl))
command_again line path Mkdir h = ap said h.2 ∙ command_is (named_line (codes "mkdir ") Mkdir) (drop 5 command_forms) line_forms (codes "mkdir " ++ h.0) _ (named_again (codes "mkdir ") Mkdir _ path (h.0, h.1, refl))
command_again line path Unlink h = ap said h.2 ∙ command_is (named_line (codes "unlink ") Unlink) (drop 6 command_forms) line_forms (codes "unlink " ++ h.0) _ (named_again (codes "unlink ") Unlink _ path (h.0, h.1, refl))
command_again line path Rmdir h = ap said h.2 ∙ command_is (named_line (codes "rmdir ") Rmdir) (drop 7 command_forms) line_forms (codes "rmdir " ++ h.0) _ (named_again (codes "rmdir ") Rmdir _ path (h.0, h.1, refl))
command_again line path Ls h = ap said h.2 ∙ command_is (path_line (codes "ls ") Ls) (drop 8 command_forms) line_forms (codes "ls " ++ h.0) _ (path_again (codes "ls ") Ls _ path (h.0, h.1, refl))
command_again line path Stat h = ap said h.2 ∙ command_is (path_line (codes "stat ") Stat) (drop 9 command_forms) line_forms (codes "stat " ++ h.0) _ (path_again (codes "stat ") Stat _ path (h.0, h.1, refl))
command_again line path (SetAttr key value) h = ap said h.2 ∙ command_is set_at (drop 10 command_forms) line_forms (codes "setattr " ++ h.0) _
    (whole_as set_of _ _ (Stops key_byte) (path_and_again (codes "setattr ") _ _ _ (both-again _ _ _ _ (Stops key_byte) (Stops key_byte) key-again (word_then-again (codes " ") _ _ _ key-again) (λ v y rest t. rw t.2 refl))) tt _ (path, (key, value)) (h.0, h.1, refl))
command_again line path (GetAttr key) h = ap said h.2 ∙ command_is get_at (drop 11 command_forms) line_forms (codes "getattr " ++ h.0) _
    (whole_as get_of _ _ (Stops key_byte) (path_and_again (codes "getattr ") _ _ _ key-again) tt _ (path, key) (h.0, h.1, refl))
command_again line path (Rename to) h = ap said h.2 ∙ command_is rename_at [] line_forms (codes "rename " ++ h.0) _
    (whole_as rename_of _ _ (Stops path_byte) (word_then-again (codes "rename ") _ _ _ (both-again _ _ _ _ (Stops path_byte) (Stops path_byte) named_path-again (word_then-again (codes " ") _ _ _ named_path-again) (λ v y rest t. rw t.2 refl))) tt _ (path, to) (h.0, h.1, refl))

-- a volume has one of five lines
volume_again : (version : Version) (line : List ℕ) (shape : Shape) → IsSaid line (Volume version shape) → said line ≡ Some (Volume version shape)
unfolding said shape_one_at shape_two_at volume_one_at volume_two_at files_at turns_at client_at healer_at round_at fault_at event_at order_at write_at cut_at read_at set_at get_at rename_at named_line path_line
volume_again One line shape (w, inl h, e) = ap said (e ∙ ap (λ (t : List ℕ). codes "volume " ++ t) h.0) ∙ ap (λ (s : Shape). Some (Volume One s)) h.1
volume_again One line shape (w, inr h, e) = ap said (e ∙ ap (λ (t : List ℕ). codes "volume " ++ t) h.0) ∙ ap (λ (s : Shape). Some (Volume One s)) h.1
volume_again Two line shape (w, inl h, e) = ap said (e ∙ ap (λ (t : List ℕ). codes "volume " ++ t) h.0) ∙ ap (λ (s : Shape). Some (Volume Two s)) h.1
volume_again Two line shape (w, inr (inl h), e) = ap said (e ∙ ap (λ (t : List ℕ). codes "volume " ++ t) h.0) ∙ ap (λ (s : Shape). Some (Volume Two s)) h.1
volume_again Two line shape (w, inr (inr h), e) = ap said (e ∙ ap (λ (t : List ℕ). codes "volume " ++ t) h.0) ∙ ap (λ (s : Shape). Some (Volume Two s)) h.1

pub said-again : (line : List ℕ) (s : Said) → IsSaid line s → said line ≡ Some s
unfolding said volume_one_at volume_two_at files_at turns_at client_at healer_at round_at fault_at event_at order_at write_at cut_at read_at set_at get_at rename_at named_line path_line
said-again line (Afr One) h = rw h refl
said-again line (Afr Two) h = rw h refl
said-again line (Volume version shape) h = volume_again version line shape h
said-again line (Files k) h = ap said h.2 ∙ line_is files_at (drop 5 line_forms) (codes "files " ++ h.0) _ (whole_as Files _ _ _ (number_again (codes "files ")) tt _ k (h.0, h.1, refl))
said-again line (Turns t) h = ap said h.2 ∙ line_is turns_at (drop 6 line_forms) (codes "turns " ++ h.0) _ (whole_as Turns _ _ _ (number_again (codes "turns ")) tt _ t (h.0, h.1, refl))
said-again line (Client i) h = ap said h.2 ∙ line_is client_at (drop 7 line_forms) (codes "client " ++ h.0) _ (whole_as Client _ _ _ (number_again (codes "client ")) tt _ i (h.0, h.1, refl))
said-again line (Command path w) h = command_again line path w h
said-again line (Healer j) h = ap said h.2 ∙ line_is healer_at (drop 8 line_forms) (codes "healer " ++ h.0) _ (whole_as Healer _ _ _ (number_again (codes "healer ")) tt _ j (h.0, h.1, refl))
said-again line (Round brick) h = ap said h.2 ∙ line_is round_at (drop 9 line_forms) (codes "round " ++ h.0) _ (whole_as Round _ _ _ (word_then-again (codes "round ") _ _ (Stops digit) small-again) tt _ brick (h.0, h.1, refl))
said-again line (Faulty brick at fault) h = ap said h.2 ∙ line_is fault_at (drop 10 line_forms) (codes "fault " ++ h.0) _
    (whole_as fault_of _ _ Any (word_then-again (codes "fault ") _ _ Any (both-again _ _ _ _ (Stops digit) Any small-again (word_then-again (codes " ") _ _ Any (number_and_again _ _ _ kind-again)) (λ v y rest t. rw t.2 refl))) tt _ (brick, (at, fault)) (h.0, h.1, refl))
said-again line (At at event) h = ap said h.2 ∙ line_is event_at (drop 11 line_forms) (codes "at " ++ h.0) _
    (whole_as event_of _ _ (Stops digit) (word_then-again (codes "at ") _ _ (Stops digit) (number_and_again _ _ _ happening-again)) tt _ (at, event) (h.0, h.1, refl))
said-again line (Go who count) h = ap said h.2 ∙ line_is order_at (drop 12 line_forms) (codes "go " ++ h.0) _
    (whole_as order_of _ _ (Stops digit) (word_then-again (codes "go ") _ _ (Stops digit) (both-again _ _ _ _ (Stops digit) (Stops digit) who-again (number_again (codes " ")) (λ v y rest t. rw t.2 refl))) tt _ (who, count) (h.0, h.1, refl))
said-again line End h = rw h refl
