-- What the items so far become by a further line.
use Rattle.std.specs.Prelude.{◌≡◌, ◌&&◌, ◌||◌, ℕ, Bool, true, false, bytes_eq, List, [], ◌∷◌, ◌++◌}
use Rattle.sym_geom.specs.declared.item.Item.{Item}
use Rattle.ap_io.specs.declared.scale.Scale.{Scale}
use Rattle.ap_io.specs.declared.body.Body.{Body}
use Rattle.ap_io.specs.Instances.{is_known}
use Rattle.ap_io.specs.Items.{IsItem}
use Rattle.ap_io.specs.LineFaults.{has_letter, name_on, is_blank_line}

-- the item of the line stands behind those that were there
abbrev pub HasOneMore : Scale → List ℕ → List Item → List Item → Type 0
HasOneMore scale line old new = (one : Item) × IsItem scale line one × (new ≡ old ++ one ∷ [])

-- the name of the instance of the line, if it is one, is known besides
abbrev pub HasName : List ℕ → Body → Body → Type 0
HasName line old new = (other : List ℕ) → is_known other new.names ≡ (has_letter 73 line && bytes_eq other (name_on line)) || is_known other old.names

abbrev pub TakesLine : Bool → Scale → List ℕ → Body → Body → Type 0
TakesLine true scale line old new = old ≡ new
TakesLine false scale line old new = HasOneMore scale line old.items new.items × HasName line old new

-- a blank line changes nothing
abbrev pub Takes : Scale → List ℕ → Body → Body → Type 0
Takes scale line old new = TakesLine (is_blank_line line) scale line old new
