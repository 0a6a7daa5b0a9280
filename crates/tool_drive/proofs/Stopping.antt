-- From why a list isn't read to why a plan isn't, and to the row of the table.
use Rattle.std.proofs.Common.{◌≡◌, ℕ, List, Option, None, Some, IfSome, Result, refl, ap, ◌∙◌, subst, inl, inr, arith}
use Rattle.vlsi_shelf.specs.Files.{Files}
use Rattle.vlsi_shelf.specs.Seen.{ShelfSeen, SinkSeen}
use Rattle.tool_drive.specs.declared.read.Stop.{Stop}
use Rattle.tool_drive.specs.declared.read.Stop.TheVariants as stop
use Rattle.tool_drive.specs.declared.tool.Product.{Product}
use Rattle.tool_drive.specs.declared.tool.Refusal.{Refusal}
use Rattle.tool_drive.specs.Outside.{outside, OnlyReads}
use Rattle.tool_drive.specs.Plan.{Plan, Inputs, inputs, Reading, got, lacking, long, go_on, gather, reading, Gathers, IsReached}
use Rattle.tool_drive.specs.Table.{Caused}
use Rattle.tool_drive.specs.Stops.{IsListStop, IsPlanStop, stopped}

-- what reading comes to once the first files are read
pub from_first : (files : Files) (plan : Plan) (first : List (List ℕ)) (r : Reading (List (List ℕ))) → gather files plan.first ≡ got first → gather files (plan.more first) ≡ r
    → reading files plan ≡ go_on r (λ more. got (inputs first more))
from_first files plan first r g h =
    ap (λ (x : Reading (List (List ℕ))). go_on x (λ a. go_on (gather files (plan.more a)) (λ more. got (inputs a more)))) g
    ∙ ap (λ (x : Reading (List (List ℕ))). go_on x (λ more. got (inputs first more))) h

first_is : (told : Option Files) (plan : Plan) (r : Reading (List (List ℕ))) → Gathers told plan.first r
    → IfSome told (λ files. reading files plan ≡ go_on r (λ a. go_on (gather files (plan.more a)) (λ more. got (inputs a more))))
first_is None plan r h = tt
first_is (Some files) plan r h = ap (λ (x : Reading (List (List ℕ))). go_on x (λ a. go_on (gather files (plan.more a)) (λ more. got (inputs a more)))) h

more_is : (told : Option Files) (plan : Plan) (first : List (List ℕ)) (r : Reading (List (List ℕ))) → Gathers told plan.first (got first) → Gathers told (plan.more first) r
    → IfSome told (λ files. reading files plan ≡ go_on r (λ more. got (inputs first more)))
more_is None plan first r g h = tt
more_is (Some files) plan first r g h = from_first files plan first r g h

-- why the first files of a plan aren't read
pub first_stop : (a b : ShelfSeen) (plan : Plan) (s : Stop) → IsListStop a b plan.first s → IsPlanStop a b plan s
first_stop a b plan stop.Memory h = tt
first_stop a b plan (stop.Missing name) h = (h.0, inl h.1, first_is a.files plan (lacking name) h.2)
first_stop a b plan (stop.ReadFault name) h = (h.0, inl h.1)
first_stop a b plan (stop.Long most) h = first_is a.files plan (long most) h

-- why the others aren't
pub more_stop : (a b c : ShelfSeen) (plan : Plan) (first : List (List ℕ)) (s : Stop) → OnlyReads a b → Gathers a.files plan.first (got first) → IsListStop b c (plan.more first) s
    → IsPlanStop a c plan s
more_stop a b c plan first stop.Memory reads g h = tt
more_stop a b c plan first (stop.Missing name) reads g h = (
  omega (arith, h.0, reads.counts.misses),
  inr (first, g, subst (λ (t : Option Files). IsReached t (plan.more first) name) reads.files h.1),
  more_is a.files plan first (lacking name) g (subst (λ (t : Option Files). Gathers t (plan.more first) (lacking name)) reads.files h.2),
)
more_stop a b c plan first (stop.ReadFault name) reads g h =
    (omega (arith, h.0, reads.counts.read_faults), inr (first, g, subst (λ (t : Option Files). IsReached t (plan.more first) name) reads.files h.1))
more_stop a b c plan first (stop.Long most) reads g h =
    more_is a.files plan first (long most) g (subst (λ (t : Option Files). Gathers t (plan.more first) (long most)) reads.files h)

-- the rows of a run that stops while it reads
pub caused_stop : (plan : Plan) (A : Inputs → Result Product Refusal → Type 0) (a b : ShelfSeen) (t u : SinkSeen) → OnlyReads a b → (s : Stop) → IsPlanStop a b plan s
    → Caused plan A (outside a t) (outside b u) (stopped s)
caused_stop plan A a b t u reads stop.Memory h = inl reads.files
caused_stop plan A a b t u reads (stop.Missing name) h = (reads.files, h.0, h.1, h.2)
caused_stop plan A a b t u reads (stop.ReadFault name) h = (reads.files, h.0, h.1)
caused_stop plan A a b t u reads (stop.Long most) h = inl (reads.files, (most, refl, h))
