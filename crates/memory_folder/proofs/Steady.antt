-- Whether a row has the entry and the length of when it was last whole.
use Rattle.std.proofs.Common.{◌≡◌, Bool, true, false, reverse, refl, sym, subst}
use Rattle.folder_disk.specs.Names.{Name, is_as_long, is_steady}
use Rattle.folder_disk.specs.SteadyLaws.{long_self}
use Rattle.memory_folder.specs.Rows.{content, file_by}
use Rattle.memory_folder.specs.Fakes.{name_of}
use Rattle.memory_folder.specs.declared.row.Row.{Row}

-- the row, if it were at rest, moved and removed so
abbrev named : Row → Bool → Bool → Bool → Name
named r rested moved removed = record { file = file_by r.is_there r.bytes.items rested r.was_there r.safe.items (reverse r.writes.items) removed; dirty = r.dirty; moved = moved }

pub steady_moved : (r : Row) → r.moved ≡ true → false ≡ is_steady (name_of r)
steady_moved r is = subst (λ (b : Bool). false ≡ is_steady (named r r.is_rested b r.removed)) (sym is) refl

pub steady_rested : (r : Row) → r.moved ≡ false → r.is_rested ≡ true → true ≡ is_steady (name_of r)
steady_rested r still is =
    let here : true ≡ is_steady (named r true false r.removed) = sym (long_self (content r.is_there r.bytes.items)) in
    let moved : true ≡ is_steady (named r true r.moved r.removed) = subst (λ (b : Bool). true ≡ is_steady (named r true b r.removed)) (sym still) here in
    subst (λ (b : Bool). true ≡ is_steady (named r b r.moved r.removed)) (sym is) moved

pub steady_removed : (r : Row) → r.moved ≡ false → r.is_rested ≡ false → r.removed ≡ true → false ≡ is_steady (name_of r)
steady_removed r still is gone =
    let here : false ≡ is_steady (named r false false r.removed) = subst (λ (b : Bool). false ≡ is_steady (named r false false b)) (sym gone) refl in
    let moved : false ≡ is_steady (named r false r.moved r.removed) = subst (λ (b : Bool). false ≡ is_steady (named r false b r.removed)) (sym still) here in
    subst (λ (b : Bool). false ≡ is_steady (named r b r.moved r.removed)) (sym is) moved

pub steady_by_length : (r : Row) (long : Bool) → r.moved ≡ false → r.is_rested ≡ false → r.removed ≡ false → long ≡ is_as_long (content r.is_there r.bytes.items) (content r.was_there r.safe.items) → long ≡ is_steady (name_of r)
steady_by_length r long still is there so =
    let here : long ≡ is_steady (named r false false r.removed) = subst (λ (b : Bool). long ≡ is_steady (named r false false b)) (sym there) so in
    let moved : long ≡ is_steady (named r false r.moved r.removed) = subst (λ (b : Bool). long ≡ is_steady (named r false b r.removed)) (sym still) here in
    subst (λ (b : Bool). long ≡ is_steady (named r b r.moved r.removed)) (sym is) moved
