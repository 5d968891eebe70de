-- The plan of a volume that was handed none.
use Rattle.std.specs.Prelude.{[], false}
use Rattle.afr_plan.specs.declared.plan.Plan.{Plan}

-- a plan with no brick and no actor
abbrev pub no_plan : Plan
no_plan = record {
  shape = record { n = 0; arbiter = false };
  files = 0;
  turns = 0;
  clients = [];
  healers = [];
  faults = [];
  events = [];
  go = [];
  words = record { names = []; keys = []; values = [] };
}
