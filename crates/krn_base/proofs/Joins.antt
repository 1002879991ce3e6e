-- The laws of a reduction by its name.
use Rattle.krn_base.specs.Numbers.{join_result, unit_of}
use Rattle.krn_base.specs.Reduce.{Associates, Exchanges, HasUnit}
use Rattle.krn_base.specs.ReduceLaws.{sum_associates, sum_exchanges, sum_unit, prod_associates, prod_exchanges}
use Rattle.krn_base.specs.ReduceLaws.{prod_unit, and_associates, and_exchanges, and_unit, or_associates, or_exchanges}
use Rattle.krn_base.specs.ReduceLaws.{or_unit, xor_associates, xor_exchanges, xor_unit, max_associates, max_exchanges}
use Rattle.krn_base.specs.ReduceLaws.{max_unit, min_associates, min_exchanges, min_unit}
use Rattle.krn_base.specs.declared.operation.Join.{Join}
use Rattle.krn_base.specs.declared.operation.Join.TheVariants.{Sum, Prod, And, Or, Xor, Max, Min}

pub associates : (op : Join) → Associates (join_result op)
associates Sum = sum_associates
associates Prod = prod_associates
associates And = and_associates
associates Or = or_associates
associates Xor = xor_associates
associates Max = max_associates
associates Min = min_associates

pub exchanges : (op : Join) → Exchanges (join_result op)
exchanges Sum = sum_exchanges
exchanges Prod = prod_exchanges
exchanges And = and_exchanges
exchanges Or = or_exchanges
exchanges Xor = xor_exchanges
exchanges Max = max_exchanges
exchanges Min = min_exchanges

pub has_unit : (op : Join) → HasUnit (join_result op) (unit_of op)
has_unit Sum = sum_unit
has_unit Prod = prod_unit
has_unit And = and_unit
has_unit Or = or_unit
has_unit Xor = xor_unit
has_unit Max = max_unit
has_unit Min = min_unit
