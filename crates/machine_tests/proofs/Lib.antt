mod WorkedTrails
