-- What `rip` reads and answers: what it reads is what `nero` reads.
use Rattle.std.specs.Prelude.{◌≡◌, ℕ, List, ◌++◌, codes, None, Some, Result, Ok, Err}
use Rattle.vlsi_base.specs.declared.name.Terminal.{Terminal}
use Rattle.cell_model.specs.Library.{Library}
use Rattle.net_core.specs.Netlist.{Netlist}
use Rattle.net_meaning.specs.Netlist.{AbstractNetlist as Seen}
use Rattle.net_right.specs.View.{IsSeenAs}
use Rattle.ocp_rows.specs.Placement.{net_count}
use Rattle.ocp_place.specs.Placed.{InRow}
use Rattle.tool_drive.specs.declared.status.Status.TheVariants as status
use Rattle.tool_drive.specs.declared.tool.Product.{Product}
use Rattle.tool_drive.specs.declared.tool.Refusal.{Refusal}
use Rattle.tool_drive.specs.Lines.{count_line}
use Rattle.tool_drive.specs.Plan.{Plan, Inputs}
use Rattle.ocp_run.specs.Ocp.{layout_name}
use Rattle.nero_run.specs.RowText.{part_name}
use Rattle.nero_run.specs.Nero.{Texts, texts, nero_plan, IsRoutable, IsPlainRefusal}
use Rattle.rip_run.specs.Asked.{AskedRips}
use Rattle.rip_run.specs.RippedText.{IsRippedText, IsSpentText}

abbrev pub rip_plan : AskedRips → Plan
rip_plan c = nero_plan c.routing

-- how many nets there are, without the supplies, and how many rips were made
abbrev pub report : ℕ → ℕ → List ℕ
report nets rips = count_line (codes "nets") nets ++ count_line (codes "rips") rips

-- NAME.ap is the text of the placement with routes of all its nets, which come of rips, as many as are allowed at most. It is printed how
-- many nets there are, and how many rips were made.
pub record IsLaidOut (c : AskedRips) (l : Library) (n : Netlist) (p : InRow) (product : Product) : Type 0 where
  pub bytes : List ℕ
  pub rips : ℕ
  pub name : product.name ≡ layout_name c.routing.out
  pub file : product.file ≡ Some bytes
  pub routed : IsRippedText l n p c.routing.metals c.rips rips bytes
  pub text : (k : Seen) → IsSeenAs n k → product.text ≡ report (net_count k) rips

-- A net is stuck and no rip helps it any more, and NAME_part.ap shows it.
pub record IsLeftStuck (c : AskedRips) (l : Library) (n : Netlist) (p : InRow) (r : Refusal) : Type 0 where
  pub net : ℕ
  pub terminal : Terminal
  pub status : r.status ≡ status.NoPath net terminal
  pub bytes : List ℕ
  pub part : r.part ≡ Some (record { name = part_name c.routing.out; bytes = bytes })
  pub shown : IsSpentText l n p c.routing.metals c.rips net terminal bytes

-- Library, netlist and placement are read, and the layout is written.
pub record IsRipping (c : AskedRips) (t : Texts) (product : Product) : Type 0 where
  pub l : Library
  pub n : Netlist
  pub placement : InRow
  pub routable : IsRoutable c.routing t l n placement
  pub laid : IsLaidOut c l n placement product

-- what `nero` refuses without a file; or then a net that is stuck
pub data IsRipRefusal (c : AskedRips) (t : Texts) (r : Refusal) : Type 0 where
  plain : r.part ≡ None → IsPlainRefusal c.routing t r.status → IsRipRefusal c t r
  stuck : (l : Library) (n : Netlist) (p : InRow) → IsRoutable c.routing t l n p → IsLeftStuck c l n p r → IsRipRefusal c t r

-- the layout is written and the numbers of nets and rips are printed, or one of these refusals
abbrev pub Rips : AskedRips → Texts → Result Product Refusal → Type 0
Rips c t (Ok p) = IsRipping c t p
Rips c t (Err r) = IsRipRefusal c t r

abbrev pub rip_answers : AskedRips → Inputs → Result Product Refusal → Type 0
rip_answers c i r = Rips c (texts i.first i.more) r
