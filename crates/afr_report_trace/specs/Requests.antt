-- The texts of requests.
use Rattle.std.specs.Prelude.{ℕ, ◌+◌, List, [], ◌++◌, codes, decimal}
use Rattle.afr_lines.specs.declared.lock.Domain.{Domain}
use Rattle.afr_lines.specs.declared.lock.Domain.TheVariants.{Work, Heal}
use Rattle.afr_lines.specs.declared.request.Request.{Request}
use Rattle.afr_lines.specs.declared.request.Request.TheVariants as request
use Rattle.afr_plan.specs.declared.plan.Plan.{Plan}
use Rattle.afr_model.specs.ReportReplies.{kind_text}
use Rattle.afr_report_trace.specs.Numbers.{bricks_text}
use Rattle.afr_report_trace.specs.Objects.{object_text, name_text, key_text, range_text, area_text}
use Rattle.afr_report_trace.specs.Repairs.{repair_text, marks_text}

-- which locks are meant: those of heals have a word
abbrev pub domain_text : Domain → List ℕ
domain_text Work = []
domain_text Heal = codes "heal "

-- a request: its word, and what it is about
abbrev pub request_text : Plan → Request → List ℕ
request_text p (request.Lock domain area) = codes "lock " ++ domain_text domain ++ area_text p area
request_text p (request.Unlock domain area) = codes "unlock " ++ domain_text domain ++ area_text p area
request_text p (request.Look g) = codes "look " ++ object_text p g
request_text p (request.ReadBytes g at len) = codes "read " ++ range_text p g at (at + len)
request_text p (request.ReadName dir name) = codes "name " ++ name_text p dir name
request_text p (request.List g) = codes "list " ++ object_text p g
request_text p (request.ReadAttr g key) = codes "attr " ++ key_text p g key
request_text p (request.ReadAttrs g) = codes "attrs " ++ object_text p g
request_text p request.Index = codes "index"
request_text p (request.Pre g kind) = codes "pre " ++ object_text p g ++ codes " " ++ kind_text kind
request_text p (request.Apply attempt) = codes "apply " ++ decimal attempt
request_text p (request.Post attempt g kind missed) = codes "post " ++ decimal attempt ++ codes " " ++ bricks_text missed
request_text p (request.Mend repair) = repair_text p repair
request_text p (request.Settle g kind less) = codes "settle " ++ object_text p g ++ codes " " ++ kind_text kind ++ codes " " ++ marks_text p less
