-- How a primary that is up may answer a line, whatever its disks tell.
use Rattle.std.specs.Prelude.{◌≡◌, Bool, true, false}
use Rattle.plan_lang.specs.declared.lines.Line.{Line}
use Rattle.plan_lang.specs.declared.lines.Line.TheVariants as line
use Rattle.rdf_core.specs.declared.replies.NoWhy.{NoWhy}
use Rattle.rdf_core.specs.declared.replies.NoWhy.TheVariants as no
use Rattle.rdf_core.specs.declared.replies.Reply.{Reply}
use Rattle.rdf_core.specs.declared.replies.Reply.TheVariants.{Done, Number, Got, Rows, PrimaryUp, No}

-- why a line is refused that changes or reads a record, and needs a value there or none
abbrev pub IsOfPlace : (needs : Bool) → NoWhy → Type 0
IsOfPlace needs no.Txn = Unit {0}
IsOfPlace needs no.Volume = Unit {0}
IsOfPlace needs (no.Locked by) = Unit {0}
IsOfPlace needs no.Exists = needs ≡ false
IsOfPlace needs no.Missing = needs ≡ true
IsOfPlace needs _ = ⊥

-- why a line may be refused
abbrev pub MayRefuse : Line → NoWhy → Type 0
MayRefuse (line.Begin t) why = why ≡ no.Used
MayRefuse (line.Insert t k value) why = IsOfPlace false why
MayRefuse (line.Update t k value) why = IsOfPlace true why
MayRefuse (line.Delete t k) why = IsOfPlace true why
MayRefuse (line.Get t k) why = IsOfPlace true why
MayRefuse (line.Commit t) why = why ≡ no.Txn
MayRefuse (line.Abort t) why = why ≡ no.Txn
MayRefuse (line.List node vol) why = why ≡ no.Volume
MayRefuse _ why = ⊥

-- a line is refused so, or gets its own kind of reply
abbrev pub MayAnswer : Line → Reply → Type 0
MayAnswer l (No why) = MayRefuse l why
MayAnswer (line.Begin t) Done = Unit {0}
MayAnswer (line.Insert t k value) (Number n) = Unit {0}
MayAnswer (line.Update t k value) (Number n) = Unit {0}
MayAnswer (line.Delete t k) (Number n) = Unit {0}
MayAnswer (line.Get t k) (Got value) = Unit {0}
MayAnswer (line.Commit t) (Number n) = Unit {0}
MayAnswer (line.Abort t) (Number n) = Unit {0}
MayAnswer (line.List node vol) (Rows at rows) = Unit {0}
MayAnswer (line.Status node) (PrimaryUp len active) = Unit {0}
MayAnswer l reply = ⊥
