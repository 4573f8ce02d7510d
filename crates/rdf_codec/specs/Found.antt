-- What a call found of a list of entries.
use Rattle.std.specs.Prelude.{◌≡◌, List, Result, Ok, Err, IfOk}
use Rattle.std.specs.declared.alloc.Global.{Global}
use Rattle.std.specs.declared.vec.Vec.{Vec}
use Rattle.rdf_codec.specs.declared.fault.CodecFault.{CodecFault}
use Rattle.rdf_codec.specs.declared.input.Input.{Input}
use Rattle.rdf_codec.specs.Reading.{Rest, left_of}

-- these entries, unless there was no memory for them, and what is left; or the first fault
abbrev pub Finds : {X E : Type 0} → Result (Result (Vec X Global) E × Input) CodecFault → Result (List X × Rest) CodecFault → Type 0
Finds {X = X} (Ok x) read = (found : List X) × (read ≡ Ok (found, left_of x.1)) × IfOk x.0 (λ v. v.items ≡ found)
Finds (Err e) read = read ≡ Err e
