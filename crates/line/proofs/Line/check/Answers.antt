-- Each number is tested against its range, and then the tables.
use Rattle.std.proofs.Common.{length, sym, ◌∙◌}
use Rattle.line_model.proofs.Fresh.{station_count, line_size, short_table, none_refused}
use Rattle.line.proofs.Ranges.{contains_is}
use Rattle.line.proofs.Line.check.Goals as goal

pub returns-then-not-contains : goal.returns-then-not-contains
returns-then-not-contains g c =
    station_count c.args.stations c.args.nodes (length c.args.node_table.now) (length c.args.station_table.now)
    (sym c.if-not-contains.true ∙ contains_is c.args.stations c.new.ensures.start c.new.ensures.end c.new.ensures.exhausted c.contains.ensures.value)

pub returns-then-not-contains-2 : goal.returns-then-not-contains-2
returns-then-not-contains-2 g c =
    line_size c.args.stations c.args.nodes (length c.args.node_table.now) (length c.args.station_table.now)
    (sym c.if-not-contains.false ∙ contains_is c.args.stations c.new.ensures.start c.new.ensures.end c.new.ensures.exhausted c.contains.ensures.value)
    (sym c.if-not-contains-2.true ∙ contains_is c.args.nodes c.new-2.ensures.start c.new-2.ensures.end c.new-2.ensures.exhausted c.contains-2.ensures.value)

pub returns-then-node_table-nodes : goal.returns-then-node_table-nodes
returns-then-node_table-nodes g c =
    short_table c.args.stations c.args.nodes (length c.args.node_table.now) (length c.args.station_table.now)
    (sym c.if-not-contains.false ∙ contains_is c.args.stations c.new.ensures.start c.new.ensures.end c.new.ensures.exhausted c.contains.ensures.value)
    (sym c.if-not-contains-2.false ∙ contains_is c.args.nodes c.new-2.ensures.start c.new-2.ensures.end c.new-2.ensures.exhausted c.contains-2.ensures.value)
    c.then-node_table-nodes.either

pub returns : goal.returns
returns g c =
    none_refused c.args.stations c.args.nodes (length c.args.node_table.now) (length c.args.station_table.now)
    (sym c.if-not-contains.false ∙ contains_is c.args.stations c.new.ensures.start c.new.ensures.end c.new.ensures.exhausted c.contains.ensures.value)
    (sym c.if-not-contains-2.false ∙ contains_is c.args.nodes c.new-2.ensures.start c.new-2.ensures.end c.new-2.ensures.exhausted c.contains-2.ensures.value)
    c.if-node_table-nodes.false c.if-station_table-stations.false
