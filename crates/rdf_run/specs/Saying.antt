-- What the program says on standard error of how its call ended.
use Rattle.std.specs.Prelude.{ℕ, List, [], ◌++◌, codes, decimal}
use Rattle.plan_lang.specs.Faults.{why_name}
use Rattle.rdf_system.specs.Saying.{disk_text}
use Rattle.rdf_run.specs.declared.status.Status.{Status}
use Rattle.rdf_run.specs.declared.status.Status.TheVariants as status

-- one line, without its end; of bad words a line for each list of words follows, and of a call that is done nothing is said
abbrev pub said_of : Status → List ℕ
said_of status.Done = []
said_of status.BadWords = codes "rdf: bad words\nusage: rdf run\nusage: rdf run --dir D\nusage: rdf predict\nusage: rdf make SEED TXNS"
said_of (status.BadPlan line why) = codes "rdf: line " ++ decimal line ++ codes ": " ++ why_name why
said_of status.ReadFault = codes "rdf: cannot read the plan"
said_of status.WriteFault = codes "rdf: cannot write"
said_of (status.DeviceFault node disk) = codes "rdf: device fault at " ++ disk_text node disk
said_of status.NoMemory = codes "rdf: no memory"
said_of (status.Damaged node disk file at) = codes "rdf: damaged " ++ disk_text node disk ++ codes " file " ++ decimal file ++ codes " at " ++ decimal at
said_of (status.NotBlank node disk) = codes "rdf: not blank " ++ disk_text node disk
said_of status.TooLong = codes "rdf: plan too long"
said_of (status.StoppedEarly node disk) = codes "rdf: stopped early " ++ disk_text node disk
