-- The faults of bytes, as they are shown.
use Rattle.std.specs.Prelude.{ℕ, List, ◌++◌, codes, decimal}
use Rattle.rdf_codec.specs.declared.fault.CodecFault.{CodecFault}
use Rattle.rdf_codec.specs.declared.fault.CodecFault.TheVariants.{Truncated, BadKind, BadNumber, BadByte, Extra, NoMemory}

-- what is wrong with the bytes, and where
abbrev pub codec_fault_text : CodecFault → List ℕ
codec_fault_text (Truncated at) = codes "truncated at " ++ decimal at
codec_fault_text (BadKind at) = codes "bad kind at " ++ decimal at
codec_fault_text (BadNumber at) = codes "bad number at " ++ decimal at
codec_fault_text (BadByte at) = codes "bad byte at " ++ decimal at
codec_fault_text (Extra at) = codes "extra bytes at " ++ decimal at
codec_fault_text NoMemory = codes "no memory"
