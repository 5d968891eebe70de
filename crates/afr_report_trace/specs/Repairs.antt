-- The texts of repairs, and of the numbers that a heal takes back.
use Rattle.std.specs.Prelude.{ℕ, ◌+◌, List, ◌++◌, codes, decimal, flat_map, take}
use Rattle.afr_base.specs.declared.marks.Marks.{Marks}
use Rattle.afr_object.specs.declared.change.Repair.{Repair}
use Rattle.afr_object.specs.declared.change.Repair.TheVariants as repair
use Rattle.afr_plan.specs.declared.plan.Plan.{Plan}
use Rattle.afr_report_trace.specs.Numbers.{given, with_commas}
use Rattle.afr_report_trace.specs.Objects.{object_text, range_text}

-- a repair, and the positions of the reads that it takes its contents from
abbrev pub repair_text : Plan → Repair → List ℕ
repair_text p (repair.CutTo g len) = codes "cut " ++ object_text p g ++ codes " " ++ decimal len
repair_text p (repair.Copy g at span read) = codes "copy " ++ range_text p g at (at + span) ++ codes " from " ++ decimal read
repair_text p (repair.PutAttrs g read) = codes "put-attrs " ++ object_text p g ++ codes " from " ++ decimal read
repair_text p (repair.PutNames g reads) = codes "put-names " ++ object_text p g ++ codes " from " ++ with_commas (given reads)

-- the dirty number and the pending numbers for the volume's bricks
abbrev pub marks_text : Plan → Marks → List ℕ
marks_text p marks = decimal marks.dirty ++ flat_map (λ n. codes " " ++ decimal n) (take p.shape.n marks.pending)
