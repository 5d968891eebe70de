-- The log as the code keeps it, the oldest line first, and as contracts see it.
use Rattle.std.proofs.Common.{◌≡◌, ℕ, ◌<◌, ◌≤◌, ◌⊎◌, inl, inr, List, [], ◌∷◌, ◌++◌, ap, ◌∙◌, Some, None, arith, reverse, slice_get, length, length-append, get_or}
use Rattle.std.proofs.Math.Seq.{get_or-append_seam}
use Rattle.std.proofs.lemmas.List.{length-reverse, reverse-append}
use Rattle.std.proofs.lemmas.Option.{slice_get-get_or, slice_get_cases}
use Rattle.afr_lines.specs.declared.line.Line.{Line}
use Rattle.afr_plan.specs.declared.plan.Plan.{Plan}

-- the newest line of a log that is kept oldest first
pub reverse_push : (xs : List Line) (x : Line) → reverse (xs ++ x ∷ []) ≡ x ∷ reverse xs
reverse_push xs x = reverse-append xs (x ∷ [])

-- a line that was added stands after the lines before it
pub newest_at : (old new : List Line) (line : Line) (at : ℕ) → new ≡ old ++ line ∷ [] → at ≡ length old → slice_get new at ≡ Some line
newest_at old new line at grown position =
    let within : length old < length (old ++ line ∷ []) = omega (arith, length-append {A = _} old (line ∷ [])) in
    rw (grown, position) (slice_get-get_or (old ++ line ∷ []) (length old) line within ∙ ap Some (get_or-append_seam old line [] line))

-- a log that has room has it as the code keeps it
pub few_items : (p : Plan) (items : List Line) → length (reverse items) < p.turns → length items < p.turns
few_items p items room = omega (arith, length-reverse items, room)

-- a line stands at each position of the log
pub is_there : (log : List Line) (at : ℕ) → at < length log → None ≡ slice_get log at → ⊥
is_there log at small none = go (slice_get_cases log at).1
  where
    go : ((line : Line) × (at < length log) × (slice_get log at ≡ Some line) × (get_or log at line ≡ line)) ⊎ ((length log ≤ at) × (slice_get log at ≡ None)) → ⊥
    go (inl e) = grind (arith, none ∙ e.2)
    go (inr e) = omega (arith, e.0, small)
