-- What an answer says of a count of faults.
use Rattle.std.specs.Prelude.{◌≡◌, ℕ, ◌≤◌, Result, Ok, Err}
use Rattle.rdf_types.specs.Counts.{Rose}
use Rattle.rdf_ports.specs.declared.whole.ReadAllFault.{ReadAllFault}
use Rattle.rdf_ports.specs.declared.whole.ReadAllFault.TheVariants.{Failed, TooLong, NoMemory}

-- a fault came: the count rose, or stands where it stays
abbrev pub Faulted : ℕ → ℕ → Type 0
Faulted old new = (old ≤ new) × Rose old new

-- an `Err` comes only with a fault, and an `Ok` with none
abbrev pub CountsFault : {T E : Type 0} → Result T E → ℕ → ℕ → Type 0
CountsFault (Ok x) old new = new ≡ old
CountsFault (Err e) old new = Faulted old new

-- `Failed` comes only with a fault, and every other answer with none
abbrev pub CountsReadFault : {T : Type 0} → Result T ReadAllFault → ℕ → ℕ → Type 0
CountsReadFault (Ok x) old new = new ≡ old
CountsReadFault (Err Failed) old new = Faulted old new
CountsReadFault (Err TooLong) old new = new ≡ old
CountsReadFault (Err NoMemory) old new = new ≡ old
