-- Nodes of the code, without where they lie in memory.
use Rattle.std.specs.Prelude.{List, map}
use Rattle.module_names.specs.declared.listing.Listing.{Listing}
use Rattle.module_names.specs.Nodes as spec
use Rattle.module_names.specs.declared.node.Maker.{Maker}
use Rattle.module_names.specs.declared.node.Node.{Node}
use Rattle.module_names.specs.declared.node.Node.TheVariants as n
use Rattle.module_names.specs.declared.node.Role.{Role}
use Rattle.module_names.specs.declared.node.Role.TheVariants as r

abbrev pub maker_seen : Maker → spec.Maker
maker_seen m = record { base = m.base.now; function = m.function.now; filled = m.filled }

abbrev pub role_seen : Role → spec.Role
role_seen r.Operand = spec.Operand
role_seen r.Whole = spec.Whole
role_seen r.Iterated = spec.Iterated
role_seen r.Assigned = spec.Assigned
role_seen r.Updated = spec.Updated
role_seen (r.Shape m) = spec.Shape (maker_seen m)
role_seen (r.Kind m) = spec.Kind (maker_seen m)

abbrev pub node_seen : Node → spec.Node
node_seen (n.Statement last s) = spec.Statement last s.now
node_seen (n.Expression role x) = spec.Expression (role_seen role) x.now
node_seen (n.Trailing role head before trailer after) = spec.Trailing (role_seen role) head.now before.now
    trailer.now after.now
node_seen (n.Bound name) = spec.Bound name.now

abbrev pub listed : Listing → List spec.Node
listed l = map node_seen l.nodes.items
