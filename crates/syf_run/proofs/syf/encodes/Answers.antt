use Rattle.std.proofs.Common.{Err, sym, ◌∙◌, ap, subst, arith}
use Rattle.syf_encode.specs.declared.style.Style.{Style}
use Rattle.syf_encode.specs.Codes.{codes_by}
use Rattle.tool_drive.specs.declared.tool.Refusal.{Refusal}
use Rattle.tool_drive.specs.Table.{IsJudged}
use Rattle.syf_run.specs.Syf.{Encodes}
use Rattle.syf_run.proofs.Refusing.{by_source}
use Rattle.syf_run.proofs.syf.encodes.Goals as goal

pub returns-in-Err : goal.returns-in-Err
returns-in-Err c =
    subst (λ (r : Refusal). IsJudged (Encodes c.args.command.now c.args.source.now) (Err r)) (sym c.plain.ensures)
    (by_source c.args.command.now c.args.source.now c.in-Err.error c.refused.result c.in-Err.ensures.refused c.refused.ensures)

pub product-requires-clause-names : goal.product-requires-clause-names
product-requires-clause-names c =
    c.machine_of_fsm_can_be_written.ensures c.args.source.now c.in-Ok.states c.in_ok-made.made.codes c.in_ok-made.made.machine c.in-Ok.ensures.accepted
    c.in_ok-made.ensures.made

pub product-requires-clause-few : goal.product-requires-clause-few
product-requires-clause-few c = let room = c.in_ok-made.ensures.few in omega (arith, room)

pub returns : goal.returns
returns c =
    let made = c.in_ok-made.ensures in
    record {
      f = c.in-Ok.states;
      k = c.in_ok-made.made.codes;
      m = c.in_ok-made.made.machine;
      encoded = record {
        machine = c.in-Ok.ensures.accepted;
        codes_are = made.codes ∙ ap (λ (how : Style). codes_by how c.in-Ok.states) c.style_of.ensures;
        different = made.different;
        made = made.made;
        does = made.does;
        checked = made.checked;
        few = made.few;
      };
      name = c.in_ok-written.ensures.name;
      file = c.in_ok-written.ensures.file;
      text = c.in_ok-written.ensures.text;
    }
