-- The five parts come back one behind the other; the first line that is refused ends the reading.
use mathlib.Core.Path.{refl}
use native.Mathlib.Omega.{arith}
use Rattle.meaning.specs.Files.{suppliers_line}
use Rattle.lines.proofs.Follow.{handed_on}
use Rattle.lines.proofs.Judging.{few_counted}
use Rattle.trucks.proofs.Repeat.{front_lent, front_back}
use Rattle.trucks.proofs.Truck.{upto_row, upto_products, upto_suppliers, upto_docks}
use Rattle.trucks.proofs.Truck.{row_refused, products_refused, suppliers_refused, docks_refused, plant_docks_refused, truck_read}
use Rattle.trucks.proofs.read_truck.Goals as goal

pub returns-in_err-row : goal.returns-in_err-row
returns-in_err-row c = handed_on c.from_residual.ensures.1 (row_refused (rw c.in_err-row.was at c.read_truck_fields.ensures))

pub returns-in_err-products : goal.returns-in_err-products
returns-in_err-products c =
    let row = upto_row c.args.part.now c.requires c.clear.ensures c.read_truck_fields.new.part c.read_truck_fields.auto.part in
    handed_on c.from_residual-in_err-products.ensures.1 (products_refused (rw c.in_ok-row.was at c.read_truck_fields.ensures) (rw (c.in_err-products.was, front_lent row.2 33 (omega arith)) at (c.counted_line.ensures "products=" refl)))

pub returns-in_err-suppliers : goal.returns-in_err-suppliers
returns-in_err-suppliers c =
    let row = upto_row c.args.part.now c.requires c.clear.ensures c.read_truck_fields.new.part c.read_truck_fields.auto.part in
    let products = upto_products c.args.part.now c.requires c.clear.ensures c.read_truck_fields.new.part c.read_truck_fields.auto.part c.counted_line.new.out c.counted_line.auto.out in
    handed_on c.from_residual-in_err-suppliers.ensures.1 (suppliers_refused (rw c.in_ok-row.was at c.read_truck_fields.ensures) (rw (c.in_ok-products.was, front_lent row.2 33 (omega arith)) at (c.counted_line.ensures "products=" refl)) (rw (c.in_err-suppliers.was, front_lent products.2 9 (omega arith)) at (c.counted_line-2.ensures "suppliers=" refl)))

pub read_docks-requires : goal.read_docks-requires
read_docks-requires c =
    let products = upto_products c.args.part.now c.requires c.clear.ensures c.read_truck_fields.new.part c.read_truck_fields.auto.part c.counted_line.new.out c.counted_line.auto.out in
    let suppliers = upto_suppliers c.args.part.now c.requires c.clear.ensures c.read_truck_fields.new.part c.read_truck_fields.auto.part c.counted_line.new.out c.counted_line.auto.out c.counted_line-2.new.out c.counted_line-2.auto.out in
    let read = (rw (c.in_ok-suppliers.was, front_lent products.2 9 (omega arith)) at (c.counted_line-2.ensures "suppliers=" refl)) in
    (few_counted suppliers_line read, front_lent suppliers.2 72 (omega arith))

pub returns-in_err-docks : goal.returns-in_err-docks
returns-in_err-docks c =
    let row = upto_row c.args.part.now c.requires c.clear.ensures c.read_truck_fields.new.part c.read_truck_fields.auto.part in
    let products = upto_products c.args.part.now c.requires c.clear.ensures c.read_truck_fields.new.part c.read_truck_fields.auto.part c.counted_line.new.out c.counted_line.auto.out in
    handed_on c.from_residual-in_err-docks.ensures.1 (docks_refused (rw c.in_ok-row.was at c.read_truck_fields.ensures) (rw (c.in_ok-products.was, front_lent row.2 33 (omega arith)) at (c.counted_line.ensures "products=" refl)) (rw (c.in_ok-suppliers.was, front_lent products.2 9 (omega arith)) at (c.counted_line-2.ensures "suppliers=" refl)) (rw c.in_err-docks.was at c.read_docks.ensures))

pub returns-in_err-plant_docks : goal.returns-in_err-plant_docks
returns-in_err-plant_docks c =
    let row = upto_row c.args.part.now c.requires c.clear.ensures c.read_truck_fields.new.part c.read_truck_fields.auto.part in
    let products = upto_products c.args.part.now c.requires c.clear.ensures c.read_truck_fields.new.part c.read_truck_fields.auto.part c.counted_line.new.out c.counted_line.auto.out in
    let docks = upto_docks c.args.part.now c.requires c.clear.ensures c.read_truck_fields.new.part c.read_truck_fields.auto.part c.counted_line.new.out c.counted_line.auto.out c.counted_line-2.new.out c.counted_line-2.auto.out c.read_docks.new.part c.read_docks.auto.part in
    handed_on c.from_residual-in_err-plant_docks.ensures.1 (plant_docks_refused (rw c.in_ok-row.was at c.read_truck_fields.ensures) (rw (c.in_ok-products.was, front_lent row.2 33 (omega arith)) at (c.counted_line.ensures "products=" refl)) (rw (c.in_ok-suppliers.was, front_lent products.2 9 (omega arith)) at (c.counted_line-2.ensures "suppliers=" refl)) (rw c.in_ok-docks.was at c.read_docks.ensures) (rw (c.in_err-plant_docks.was, front_lent docks.2 9 (omega arith)) at (c.counted_line-3.ensures "plantdocks=" refl)))

pub returns : goal.returns
returns c =
    let row = upto_row c.args.part.now c.requires c.clear.ensures c.read_truck_fields.new.part c.read_truck_fields.auto.part in
    let products = upto_products c.args.part.now c.requires c.clear.ensures c.read_truck_fields.new.part c.read_truck_fields.auto.part c.counted_line.new.out c.counted_line.auto.out in
    let docks = upto_docks c.args.part.now c.requires c.clear.ensures c.read_truck_fields.new.part c.read_truck_fields.auto.part c.counted_line.new.out c.counted_line.auto.out c.counted_line-2.new.out c.counted_line-2.auto.out c.read_docks.new.part c.read_docks.auto.part in
    truck_read (rw c.in_ok-row.was at c.read_truck_fields.ensures) (rw (c.in_ok-products.was, front_lent row.2 33 (omega arith)) at (c.counted_line.ensures "products=" refl)) (rw (c.in_ok-suppliers.was, front_lent products.2 9 (omega arith)) at (c.counted_line-2.ensures "suppliers=" refl)) (rw c.in_ok-docks.was at c.read_docks.ensures) (rw (c.in_ok-plant_docks.was, front_lent docks.2 9 (omega arith)) at (c.counted_line-3.ensures "plantdocks=" refl)) (front_back docks.2 9 c.counted_line-3.new.out (omega arith) c.counted_line-3.auto.out)
