-- Why a layout has no netlist: an instance of an unknown cell, 2^32 shapes or more, 2^32 ports and pins or more, or two ports that are
-- joined.
use Rattle.std.specs.Prelude.{◌≡◌, ◌≢◌, ◌⊎◌, ◌↔◌, false, ℕ, ◌+◌, ◌-◌, ◌<◌, ◌≤◌, ◌^◌, min, List, ◌∷◌, ◌++◌, length, map, sum_by, option_map, None, Some, slice_get, slice_index_or}
use Rattle.vlsi_base.specs.declared.fault.Limit.{Limit}
use Rattle.vlsi_base.specs.declared.fault.LimitKind.TheVariants as kind
use Rattle.vlsi_base.specs.declared.name.Name.{Name}
use Rattle.vlsi_base.specs.Member.{In, AllDifferent}
use Rattle.vlsi_base.specs.Names.{comes_before}
use Rattle.sym_geom.specs.declared.item.Instance.{Instance as Placed}
use Rattle.sym_geom.specs.declared.item.Item.{Item}
use Rattle.sym_shapes.specs.Shape.{Shape, connector_names}
use Rattle.sym_shapes.specs.Joined.{Shows}
use Rattle.sym_shapes.specs.Chain.{IsChain}
use Rattle.ap_io.specs.declared.figure.Figure.{Figure}
use Rattle.cell_model.specs.Library.{Library, cell_of}
use Rattle.cell_model.specs.Layout.{instances_of, shapes}
use Rattle.net_core.specs.Netlist.{port}
use Rattle.cougar_extract.specs.declared.error.Step.{Step}
use Rattle.cougar_extract.specs.declared.error.ExtractError.{ExtractError}
use Rattle.cougar_extract.specs.declared.error.ExtractError.TheVariants as error
use Rattle.cougar_extract.specs.Extracted.{AreKnown, AreTied, pins_of_cell}

-- the first instance whose model isn't in the library has this one
pub record IsFirstUnknown (instances : List Placed) (l : Library) (model : List ℕ) : Type 0 where
  pub before : List Placed
  pub instance : Placed
  pub behind : List Placed
  pub all_are : instances ≡ before ++ instance ∷ behind
  pub known : AreKnown before l
  pub unknown : cell_of l instance.model ≡ None
  pub model_is : model ≡ instance.model

-- ---- limits

-- the layout has 2^32 shapes or more, so many
pub record IsTooLarge (items : List Item) (l : Library) (limit : Limit) : Type 0 where
  pub many : 2 ^ 32 ≤ length (shapes items l)
  pub limit_is : limit ≡ record { which = kind.Size; reached = length (shapes items l) }

-- how many pins the instances have together
abbrev pub pin_count : List Item → Library → ℕ
pin_count items l = sum_by (λ i. length (pins_of_cell (cell_of l i.model))) (instances_of items)

-- so many ports and pins: a port for each name of the figure's connectors, and the pins of each instance's cell
pub record HasTerminals (items : List Item) (l : Library) (count : ℕ) : Type 0 where
  pub names : List Name
  pub different : AllDifferent names
  pub same : (name : Name) → In name names ↔ In name (connector_names items)
  pub count_is : count ≡ length names + pin_count items l

-- there are 2^32 or more: so many, or the greatest number of 64 bits where that is less
pub record HasTooManyTerminals (items : List Item) (l : Library) (limit : Limit) : Type 0 where
  pub count : ℕ
  pub terminals : HasTerminals items l count
  pub many : 2 ^ 32 ≤ count
  pub limit_is : limit ≡ record { which = kind.Bits; reached = min count (2 ^ 64 - 1) }

-- too many shapes, or else too many ports and pins
abbrev pub IsOverLimit : List Item → Library → Limit → Type 0
IsOverLimit items l limit = IsTooLarge items l limit ⊎ ((length (shapes items l) < 2 ^ 32) × HasTooManyTerminals items l limit)

-- the ports and pins are fewer than 2^32
pub record HasFewTerminals (items : List Item) (l : Library) : Type 0 where
  pub count : ℕ
  pub terminals : HasTerminals items l count
  pub few : count < 2 ^ 32

-- the shapes are fewer than 2^32, and so are the ports and pins
abbrev pub CanBeNumbered : List Item → Library → Type 0
CanBeNumbered items l = (length (shapes items l) < 2 ^ 32) × HasFewTerminals items l

-- ---- joined ports

-- two ports of different names are joined
pub record AreShorted (items : List Item) (l : Library) (a b : Name) : Type 0 where
  pub differ : a ≢ b
  pub tied : AreTied items l (port a) (port b)

-- no two ports of different names are joined
abbrev pub NoShort : List Item → Library → Type 0
NoShort items l = (a b : Name) → AreShorted items l a b → ⊥

-- of all such pairs a is the least name, and b the least other name that is joined to it
pub record IsLeastShort (items : List Item) (l : Library) (a b : Name) : Type 0 where
  pub shorted : AreShorted items l a b
  pub first : (c d : Name) → AreShorted items l c d → comes_before c a ≡ false
  pub second : (d : Name) → AreShorted items l a d → comes_before d b ≡ false

-- what a chain tells of a shape
abbrev pub step_of : Shape → Step
step_of s = record { metal = s.metal; rect = s.rect; owner = s.owner }

-- The steps of a chain of linked shapes, none of which stands in it twice, from a connector of the port a to one of the port b.
pub record IsChainOf (all : List Shape) (a b : Name) (steps : List Step) : Type 0 where
  pub places : List ℕ
  pub from : ℕ
  pub to : ℕ
  pub chain : IsChain all places from to
  pub begins : (d : Shape) → Shows (port a) (slice_index_or all from d)
  pub ends : (d : Shape) → Shows (port b) (slice_index_or all to d)
  pub told : map Some steps ≡ map (λ k. option_map step_of (slice_get all k)) places

-- why a figure has no netlist, if memory hasn't run out
abbrev pub IsExtractRefusal : Figure → Library → ExtractError → Type 0
IsExtractRefusal f l error.Memory = Unit {0}
IsExtractRefusal f l (error.UnknownCell model) = IsFirstUnknown (instances_of f.items) l model
IsExtractRefusal f l (error.Limit limit) = AreKnown (instances_of f.items) l × IsOverLimit f.items l limit
IsExtractRefusal f l (error.Shorted a b chain) =
    AreKnown (instances_of f.items) l × CanBeNumbered f.items l × IsLeastShort f.items l a b × IsChainOf (shapes f.items l) a b chain
