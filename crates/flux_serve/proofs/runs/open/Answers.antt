use Rattle.std.specs.Arc.{arc_value}
use Rattle.flux_serve.proofs.OneSource.{source_outs, link_items_fit}
use Rattle.flux_serve.proofs.runs.open.Goals as goal

pub new-requires : goal.new-requires
new-requires g c =
    let library = g.met.L.Library in
    let served = c.args.served.now in
    let can = c.requires.can in
    let source = can.source in
    let meaning = g.L.Meaning.meaning (arc_value served.library) in
    let p = arc_value served.program in
    let outs = source_outs meaning p can.kinds served.framing (library.lawful (arc_value served.library)) can.sound source in
    rw (c.in_ok-try_clone.ensures, c.in_ok-try_clone-2.ensures, c.in_ok-try_clone-3.ensures) (record {
      kinds = can.kinds;
      sound = can.sound;
      fit = link_items_fit p can.kinds source.line source.one outs c.args.items c.requires.items;
      few = c.requires.few;
      plans_ = can.plans_;
    })
