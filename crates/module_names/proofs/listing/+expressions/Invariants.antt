use Rattle.std.proofs.Common.{◌≡◌, ◌≤◌, ◌++◌, drop, take, map, flat_map, []}
use Rattle.module_names.specs.Listing.{expr_nodes, sub_nodes, trailers_nodes, args_nodes, paired_trailer, paired_arg}
use Rattle.module_names.specs.Nodes.{Operand}
use Rattle.module_names.specs.Seen.{maker_seen, role_seen, listed}
use Rattle.std.specs.Option.{option_map}
use Rattle.module_names.proofs.listing.+expressions.Given as goal

abbrev pub invariant-list_exprs-loop-x : goal.invariant-list_exprs-loop-x
invariant-list_exprs-loop-x l = listed l.out ++ flat_map (expr_nodes Operand) (drop l.x-index l.items)
    ≡ listed l.fn.out ++ flat_map (expr_nodes Operand) l.items

abbrev pub invariant-list_links-loop-link : goal.invariant-list_links-loop-link
invariant-list_links-loop-link l = listed l.out ++ flat_map (λ link. expr_nodes Operand link.2)
    (drop l.link-index l.links) ≡ listed l.fn.out ++ flat_map (λ link. expr_nodes Operand link.2) l.links

abbrev pub invariant-list_conditions-loop-link : goal.invariant-list_conditions-loop-link
invariant-list_conditions-loop-link l = listed l.out ++ flat_map (λ link. expr_nodes Operand link.1)
    (drop l.link-index l.links) ≡ listed l.fn.out ++ flat_map (λ link. expr_nodes Operand link.1) l.links

abbrev pub invariant-list_subs-loop-sub : goal.invariant-list_subs-loop-sub
invariant-list_subs-loop-sub l = listed l.out ++ flat_map sub_nodes (drop l.sub-index l.subs) ≡ listed l.fn.out
    ++ flat_map sub_nodes l.subs

abbrev pub invariant-list_trailers-loop-at : goal.invariant-list_trailers-loop-at
invariant-list_trailers-loop-at l =
    listed l.out ++ trailers_nodes (role_seen l.role) l.head (take l.at l.trailers) (map paired_trailer
    (drop l.at l.trailers))
    ≡ listed l.fn.out ++ trailers_nodes (role_seen l.role) l.head [] (map paired_trailer l.trailers)

abbrev pub invariant-list_args-loop-arg : goal.invariant-list_args-loop-arg
invariant-list_args-loop-arg l = record {
  within : l.plain ≤ l.arg-index;
  nodes : listed l.out ++ args_nodes (option_map maker_seen l.maker) l.plain (map paired_arg (drop l.arg-index l.args))
      ≡ listed l.fn.out ++ args_nodes (option_map maker_seen l.maker) 0 (map paired_arg l.args);
}
